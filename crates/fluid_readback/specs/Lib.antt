pub mod Laws
pub mod Quorums
