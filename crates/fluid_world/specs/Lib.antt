pub mod Naming
pub mod Standing
pub mod Taking
pub mod Going
pub mod Ending
