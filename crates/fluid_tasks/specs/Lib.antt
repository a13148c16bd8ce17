pub mod Acts
pub mod Past
pub mod Printed
pub mod Examples
pub mod Line
pub mod Kept
pub mod Shown
pub mod Laws
