pub mod Shelved
pub mod Openings
pub mod Again
