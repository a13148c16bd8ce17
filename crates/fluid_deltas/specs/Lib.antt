pub mod Pages
pub mod Pushed
pub mod Stored
pub mod Ranges
pub mod Flushes
