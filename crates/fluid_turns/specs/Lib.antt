pub mod Tallying
pub mod Figuring
pub mod Saying
pub mod Entering
pub mod Leaving
pub mod Quiet
