pub mod Parts
mod Grown
mod Passed
mod Worked
mod Attached
mod Moved
mod Submitted
mod Submitting
mod Said
mod Summed
mod Loaded
mod Going
mod Desks
mod Whole
mod Alike
