pub mod Table
pub mod Index
pub mod Rounds
pub mod Seats
