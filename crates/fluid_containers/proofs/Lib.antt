mod Lanes
mod Ends
mod Submitted
mod Stepped
pub mod OnDesk
mod Counts
pub mod Joined
pub mod Fitted
mod Loads
mod LoadedDesk
mod Stored
mod Summarized
mod Bounded
