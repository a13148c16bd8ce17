pub mod Codes
pub mod Hushing
pub mod Telling
pub mod Failing
pub mod Coursing
pub mod Unlent
pub mod Linking
