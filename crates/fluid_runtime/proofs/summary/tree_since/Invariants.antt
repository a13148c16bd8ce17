use Rattle.std.proofs.Common.{◌≡◌, map, take}
use Rattle.fluid_runtime.specs.Slots.{node_at}
use Rattle.fluid_runtime.proofs.summary.tree_since.Given as goal

-- the nodes so far
abbrev pub invariant-loop-address : goal.invariant-loop-address
invariant-loop-address l = l.nodes ≡ map (λ e. (e.0, node_at l.mark e.0 e.1)) (take l.address-index l.slice)
