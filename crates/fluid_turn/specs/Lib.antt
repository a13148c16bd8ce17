pub mod Entries
pub mod Seats
pub mod Rule
pub mod Steps
pub mod Seated
