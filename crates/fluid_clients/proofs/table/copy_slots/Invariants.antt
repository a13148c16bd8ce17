use Rattle.std.proofs.Common.{◌≡◌, ◌≤◌, take}
use Rattle.std.specs.Vec.{vec_capacity}
use Rattle.fluid_clients.proofs.table.copy_slots.Given as goal

-- the slots so far
abbrev pub invariant-loop-slot : goal.invariant-loop-slot
invariant-loop-slot l = (l.copy.items ≡ take l.slot-index l.slots) × (l.room ≤ vec_capacity l.copy)
