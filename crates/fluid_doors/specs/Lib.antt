pub mod Terms
pub mod Passing
pub mod Answers
pub mod Entering
pub mod Storing
pub mod Collecting
pub mod Tailed
pub mod Looking
pub mod Scribing
pub mod Closing
pub mod Laws
mod Codes
