use Rattle.std.proofs.Common.{◌≡◌, map, take}
use Rattle.fluid_runtime.specs.Slots.{settled_slot}
use Rattle.fluid_runtime.proofs.slots.copy_pairs.Given as goal

-- the copies so far
abbrev pub invariant-loop-address : goal.invariant-loop-address
invariant-loop-address l = l.copies.items ≡ map (λ e. (e.0, settled_slot e.1)) (take l.address-index l.slots)
