mod Covering
pub mod Lending
pub mod Recording
pub mod Sameness
mod Values
