pub mod Printing
pub mod Stretches
