pub mod Holders
pub mod Ending
pub mod Stepping
pub mod Joining
pub mod Loading
pub mod Saying
