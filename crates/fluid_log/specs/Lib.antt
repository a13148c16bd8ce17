pub mod Calls
pub mod Codes
pub mod Keeping
pub mod Memory
pub mod Places
pub mod Shelving
