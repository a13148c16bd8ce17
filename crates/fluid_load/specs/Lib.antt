pub mod Standing
pub mod Quiet
pub mod Acting
pub mod Saying
pub mod Writing
pub mod Running
pub mod Ending
