pub mod Meaning
pub mod Output
pub mod Taking
pub mod Progress
