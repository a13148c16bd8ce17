use Rattle.std.proofs.Common.{◌≤◌, length, ap, arith}
use Rattle.std.specs.Vec.{vec_capacity}
use Rattle.fluid_clients.specs.Seats.{AreSeated}
use Rattle.fluid_clients.proofs.table.Clients.copy.Goals as goal

pub invariant_of-result : goal.invariant_of-result
invariant_of-result c =
    let index = c.self.inside.index in
    let seats : length index ≤ vec_capacity c.in_ok-seats.seats = omega (arith, c.in_ok-seats.ensures.room, c.len.ensures) in
    let free : length index ≤ vec_capacity c.in_ok-free.free = omega (arith, c.in_ok-free.ensures.room, c.len-2.ensures) in
    rw (c.in_ok-seats.ensures.copied, c.in_ok-index.ensures, c.in_ok-free.ensures.copied, c.deref.ensures.value, c.deref-2.ensures.value)
    (record { order = c.self.invariant.order; indexed = c.self.invariant.indexed; seated = seats; freed = free })
