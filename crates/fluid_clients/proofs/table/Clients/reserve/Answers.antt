use Rattle.std.proofs.Common.{◌≡◌, ◌+◌, ◌≤◌, ◌++◌, ◌∷◌, [], suc, length, ap, arith}
use Rattle.std.specs.Vec.{vec_capacity}
use Rattle.fluid_clients.specs.Seats.{AreSeated}
use Rattle.fluid_clients.proofs.Seating.{kept-more}
use Rattle.fluid_clients.proofs.table.Clients.reserve.Goals as goal

pub invariant_of-self-2 : goal.invariant_of-self-2
invariant_of-self-2 c =
    let index = c.self.inside.index in
    let count = c.self.invariant.indexed.count in
    let none : length c.self.inside.free.items ≡ 0 = grind (arith, c.is_empty.ensures, c.if-not-is_empty.false, c.self.inside.free.ok.0) in
    let seats : suc (length index) ≤ vec_capacity c.reserve.new.self = omega (arith, count, none, c.in_ok-reserve.ensures.ok, c.in_ok-reserve.ensures.len, c.self.inside.seats.ok.0) in
    let free : suc (length index) ≤ vec_capacity c.push.new.self = omega (arith, count, none, c.in_ok-reserve-2.ensures.ok, c.len.ensures, c.in_ok-reserve.ensures.len, c.self.inside.seats.ok.0, c.push.ensures.capacity) in
    rw (c.in_ok-reserve.ensures.items, c.in_ok-grow.ensures.grown, rw c.unwrap.ensures at c.push.ensures.items, c.in_ok-reserve-2.ensures.items, c.len-slot.ensures)
    (kept-more c.self.inside.seats.items index c.self.inside.free.items _ _ (vec_capacity c.reserve.new.self) (vec_capacity c.push.new.self) c.self.invariant seats free)
