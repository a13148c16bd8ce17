pub mod Options
pub mod Told
mod Writes
mod Answered
mod Collecting
mod Firsts
mod Prefixes
mod Pieces
