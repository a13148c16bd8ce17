pub mod Back
mod Canonical
mod Entered
mod Joined
pub mod Rejoined
pub mod Utf8
mod Whole
pub mod Ranges
