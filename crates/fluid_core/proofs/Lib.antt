pub mod Entered
pub mod Jobs
pub mod Within
