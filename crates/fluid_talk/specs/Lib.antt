pub mod Talking
pub mod Shelves
pub mod Doing
pub mod Counting
pub mod Causes
pub mod Hearing
pub mod Collecting
pub mod Leaving
