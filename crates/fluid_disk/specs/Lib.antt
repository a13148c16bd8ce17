pub mod Disk
pub mod Files
pub mod Memory
pub mod Records
