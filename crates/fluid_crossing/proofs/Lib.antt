pub mod Values
pub mod Documents
pub mod Doors
pub mod Services
