pub mod Fronts
pub mod Memory
pub mod Serving
