mod Standing
mod Approvals
mod Pushed
mod Due
mod Taken
mod Placed
mod Filled
pub mod Advanced
mod Objects
mod Sorted
mod Written
mod Forms
mod Read
mod Back
