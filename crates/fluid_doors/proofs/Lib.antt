pub mod Answering
pub mod Passes
pub mod Reading
pub mod Tails
pub mod Lookings
pub mod Reporting
