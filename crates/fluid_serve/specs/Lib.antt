pub mod Desks
pub mod Sittings
