use Rattle.std.proofs.Common.{◌≡◌, map, take}
use Rattle.std.specs.List.{AllByRecursion}
use Rattle.fluid_runtime.specs.AppTree.{channel_node, IsReadAsItself}
use Rattle.fluid_runtime.specs.Slots.{channel_of}
use Rattle.fluid_runtime.proofs.summary.tree_of.Given as goal

-- the nodes so far, and each of these channels is what its content is read as
abbrev pub invariant-loop-address : goal.invariant-loop-address
invariant-loop-address l = record {
  nodes : l.nodes ≡ map (λ e. (e.0, channel_node (channel_of e.1))) (take l.address-index l.slice);
  read : AllByRecursion (λ e. IsReadAsItself (channel_of e.1)) (take l.address-index l.slice);
}
