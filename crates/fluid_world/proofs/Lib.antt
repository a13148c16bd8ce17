pub mod Behind
pub mod Stepped
pub mod Linked
mod Spelled
mod Tooked
mod Ended
mod FromStart
mod Left
