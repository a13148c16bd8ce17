mod Bytes
pub mod Acted
pub mod Acts
mod Apart
mod Feeds
pub mod Ends
mod Sent
mod Collected
mod Tasked
pub mod Departing
