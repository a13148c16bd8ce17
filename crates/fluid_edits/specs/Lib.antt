pub mod Forms
pub mod Replay
pub mod Laws
pub mod Codes
pub mod Examples
pub use Rattle.fluid_types.specs.Contents
pub use Rattle.fluid_map.specs.Replay as MapReplay
pub use Rattle.fluid_counter.specs.Counter
pub use Rattle.fluid_table.specs.Table
