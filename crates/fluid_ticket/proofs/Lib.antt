mod Outcomes
mod Sound
mod Members
mod Prepares
pub mod Ledgers
pub mod JoinedRows
pub mod Heard
pub mod Commits
pub mod Within
