pub mod Lined
pub mod Memory
pub mod Wires
