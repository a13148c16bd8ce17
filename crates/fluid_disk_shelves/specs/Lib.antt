pub mod Found
pub mod Shelves
