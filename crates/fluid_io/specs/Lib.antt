pub mod Causes
pub mod Chunk
pub mod Lines
pub mod Memory
pub mod Plan
pub mod Reader
pub mod Streams
