pub mod Replays
pub mod Spelled
