pub mod Visiting
pub mod Shelved
pub mod Keys
pub mod Opening
pub mod Closing
pub mod Codes
