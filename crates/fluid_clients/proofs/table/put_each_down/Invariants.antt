use Rattle.std.proofs.Common.{◌≡◌, ◌+◌, length}
use Rattle.std.specs.Vec.{vec_capacity}
use Rattle.fluid_clients.specs.Seats.{seat_up_to, IsIndexed}
use Rattle.fluid_clients.proofs.Down.{done_to}
use Rattle.fluid_clients.proofs.table.put_each_down.Given as goal

-- the seats so far are down, and all are indexed
abbrev pub invariant-loop-at : goal.invariant-loop-at
invariant-loop-at g l =
    (l.seats.items ≡ done_to (seat_up_to l.most) l.at l.fn.seats.items)
    × IsIndexed l.seats.items l.index l.free
    × (vec_capacity l.seats ≡ vec_capacity l.fn.seats)
    × (length l.index ≡ length l.fn.index)
    × (length l.seats.items ≡ length l.fn.seats.items)
