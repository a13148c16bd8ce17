pub mod Entering
pub mod Laws
