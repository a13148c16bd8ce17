pub mod Putting
pub mod Limited
pub mod Entering
pub mod Reading
pub mod Arms
pub mod Following
