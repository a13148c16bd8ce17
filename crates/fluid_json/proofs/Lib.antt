mod Grown
mod Inside
mod Walk
mod Texts
mod Onto
mod Steps
pub mod ReadBack
