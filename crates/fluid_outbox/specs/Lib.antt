pub mod Past
pub mod Kept
pub mod Runs
pub mod Examples
