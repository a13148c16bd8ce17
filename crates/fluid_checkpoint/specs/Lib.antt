pub mod Heard
pub mod Text
pub mod Reading
pub mod Laws
pub mod Joined
pub mod Written
