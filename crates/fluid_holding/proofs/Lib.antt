pub mod Begun
pub mod Caught
pub mod Entered
pub mod Owned
pub mod Short
pub mod Taken
pub mod Whole
