pub mod Rows
pub mod Opened
pub mod Closing
pub mod Using
