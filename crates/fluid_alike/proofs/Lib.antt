mod Digest
pub mod Held
mod Put
mod Honest
mod Plain
mod Mild
mod Stood
mod Doing
mod Asking
mod Answering
mod Fresh
mod Loading
mod Apart
mod Deeds
mod Acts
mod Begins
mod Ends
