mod Versions
pub mod Sequenced
pub mod Behind
pub mod Grown
pub mod ByRules
pub mod Walked
pub mod Waits
pub mod Lowest
pub mod Judged
pub mod Taken
pub mod Handled
pub mod Alike
pub mod Within
