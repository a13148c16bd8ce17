pub mod Growing
pub mod Keepers
