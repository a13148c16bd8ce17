pub mod Resolved
pub mod Laws
pub use Rattle.fluid_tree.specs.Summary
