pub mod EntryNames
pub mod Ledgers
pub mod Numbers
pub mod Quorums
pub mod Tables
