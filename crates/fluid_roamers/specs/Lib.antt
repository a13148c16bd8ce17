pub mod Ahead
pub mod Taking
pub mod Roaming
pub mod Entering
pub mod Sending
pub mod Behind
pub mod Stepping
