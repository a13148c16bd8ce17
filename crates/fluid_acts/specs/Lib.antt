pub mod AtLane
pub mod AtStore
pub mod Doing
pub mod Parts
pub mod Laws
