pub mod Working
pub mod Summary
pub mod Examples
