pub mod Reaching
pub mod Ending
pub mod Hearing
pub mod Tasking
pub mod Calling
