pub mod Answers
pub mod Advances
pub mod Endings
pub mod WholeLines
pub mod Refused
