pub mod Naming
pub mod Fitted
pub mod Figured
pub mod Lanes
pub mod Leaving
pub mod Quiet
pub mod Tallied
