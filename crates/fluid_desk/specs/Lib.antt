pub mod Stands
pub mod Stopping
pub mod Acting
pub mod Laws
pub mod Scribing
