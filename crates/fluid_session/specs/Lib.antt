pub mod Sending
pub mod Counted
pub mod Ends
pub mod Events
pub mod Running
pub mod Whole
pub mod Outcome
pub mod Complete
