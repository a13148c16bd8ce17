pub mod State
pub mod Ledger
