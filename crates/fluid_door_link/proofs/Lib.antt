pub mod Going
pub mod Told
pub mod Hushed
pub mod Walked
pub mod Entered
pub mod Ranged
pub mod Stored
pub mod Linked
