pub mod Table
pub mod Keyed
