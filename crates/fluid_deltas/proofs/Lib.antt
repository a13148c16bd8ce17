mod Paging
mod Putting
mod Reading
mod Slices
pub mod Standing
pub mod Telling
mod Texts
