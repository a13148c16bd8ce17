pub mod Referring
pub mod Wording
pub mod Telling
