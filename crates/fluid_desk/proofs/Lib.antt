pub mod Laned
pub mod Gates
pub mod Steps
pub mod Desks
pub mod Running
pub mod Few
pub mod Honest
pub mod Opening
pub mod Doing
mod Reopening
mod Handing
mod Scribed
