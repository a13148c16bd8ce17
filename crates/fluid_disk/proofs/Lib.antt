mod Adding
mod Debts
pub mod Endings
mod Filling
mod History
pub mod Kept
mod Mending
pub mod Moments
mod Pieces
mod Promise
mod Resting
pub mod Rows
mod Runs
pub mod Standing
mod Tears
mod Undoing
mod Walks
