pub mod Tending
