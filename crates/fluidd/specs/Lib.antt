pub mod Input
pub mod Refusals
pub mod Output
pub mod Documents
pub mod Served
pub mod Tasks
pub mod Scripts
pub mod Workloads
