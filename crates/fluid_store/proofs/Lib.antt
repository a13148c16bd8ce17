mod Maps
pub mod Added
mod FoundOrPut
mod Lists
mod Distinct
pub mod Sized
mod Stood
mod Stops
pub mod Putting
pub mod Fetched
mod Looked
mod Stays
pub mod Whole
pub mod Reread
mod Resolving
pub mod Short
mod LeftOut
