mod Answered
mod Rows
pub mod Onwards
mod Levels
mod Growing
mod Records
mod Entering
mod Early
mod Handed
pub mod Keeps
pub mod Foldings
pub mod Orders
pub mod Reloading
mod Progress
mod Takes
mod Beginnings
mod Joined
mod Moments
mod Acked
mod Scribed
mod Shallow
mod InForm
mod InRange
pub mod Saying
