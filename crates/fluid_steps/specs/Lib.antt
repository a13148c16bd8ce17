pub mod Names
pub mod Words
pub mod Refusals
pub mod Stands
pub mod Ops
pub mod Grammar
pub mod Examples
