use Rattle.std.proofs.Common.{◌≡◌, ◌≤◌, take}
use Rattle.std.specs.Vec.{vec_capacity}
use Rattle.fluid_clients.proofs.table.copy_seats.Given as goal

-- the seats so far
abbrev pub invariant-loop-seat : goal.invariant-loop-seat
invariant-loop-seat l = (l.copy.items ≡ take l.seat-index l.seats) × (l.room ≤ vec_capacity l.copy)
