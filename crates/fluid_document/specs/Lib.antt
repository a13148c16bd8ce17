pub mod Entries
pub mod Puts
pub mod Rooms
pub mod Loading
pub mod Entry
pub mod Kept
pub mod Laws
pub mod Taking
