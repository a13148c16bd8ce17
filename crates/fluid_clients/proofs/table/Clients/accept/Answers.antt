use Rattle.std.proofs.Common.{◌≡◌, ◌+◌, ◌-◌, ◌*◌, ◌^◌, ◌≤◌, length, Some, None, sym, ap, subst, set, ◌∙◌, true}
use Rattle.std.specs.Vec.{vec_capacity}
use Rattle.std.specs.FinMap.{insert, get, len}
use Rattle.std.proofs.lemmas.Option.{same_Some}
use Rattle.fluid_clients.specs.declared.table.Row.{Row}
use Rattle.fluid_clients.specs.Seats.{AreSeated}
use Rattle.fluid_clients.proofs.Seating.{rows_in, slot-there, row-there, rows-changed, kept-changed, slots-count}
use Rattle.fluid_clients.proofs.table.Clients.accept.Goals as goal

pub set-requires : goal.set-requires
set-requires g c =
    slot-there c.self.inside.seats.items c.self.inside.index c.self.inside.free.items (vec_capacity c.self.inside.seats) (vec_capacity c.self.inside.free) c.self.invariant c.args.id.now _
    (rw c.deref.ensures.value at c.joined_at-at.ensures) c.index_mut-seat.result.now c.index_mut-seat.ensures.value

pub invariant_of-self : goal.invariant_of-self
invariant_of-self g c =
    let new : Row → Row = λ row. record row { last = c.args.number; reference = c.args.reference } in
    rw c.set.ensures.set (kept-changed c.self.inside.seats.items c.self.inside.index c.self.inside.free.items (vec_capacity c.self.inside.seats) (vec_capacity c.self.inside.free) c.self.invariant c.args.id.now _
    (rw c.deref.ensures.value at c.joined_at-at.ensures) c.index_mut-seat.result.now c.index_mut-seat.ensures.value (new c.index_mut-seat.result.now.row))

pub returns-clause-accepted : goal.returns-clause-accepted
returns-clause-accepted g c = λ row is.
    let new : Row → Row = λ row. record row { last = c.args.number; reference = c.args.reference } in
    let there = row-there c.self.inside.seats.items c.self.inside.index c.self.inside.free.items (vec_capacity c.self.inside.seats) (vec_capacity c.self.inside.free) c.self.invariant c.args.id.now _
    (rw c.deref.ensures.value at c.joined_at-at.ensures) c.index_mut-seat.result.now c.index_mut-seat.ensures.value in
    let same : c.index_mut-seat.result.now.row ≡ row = same_Some _ _ (sym there ∙ rw (← c.self.view_is) at is) in
    rw (← c.self.view_is) (rows-changed c.self.inside.seats.items c.self.inside.index c.self.inside.free.items (vec_capacity c.self.inside.seats) (vec_capacity c.self.inside.free) c.self.invariant c.args.id.now _
    (rw c.deref.ensures.value at c.joined_at-at.ensures) c.index_mut-seat.result.now c.index_mut-seat.ensures.value (new c.index_mut-seat.result.now.row) ∙ ap (λ r. insert (rows_in c.self.inside.seats.items) c.args.id.now (new r)) same)

pub returns-clause-cost : goal.returns-clause-cost
returns-clause-cost g c =
    rw (← c.self.view_is)
    (subst (λ n. 2 ^ (c.set.new.steps - c.args.steps.now) ≤ 2 * n) (slots-count c.self.inside.seats.items c.self.inside.index c.self.inside.free.items (vec_capacity c.self.inside.seats) (vec_capacity c.self.inside.free) c.self.invariant c.args.id.now _
    (rw c.deref.ensures.value at c.joined_at-at.ensures) c.index_mut-seat.result.now c.index_mut-seat.ensures.value) c.set.ensures.cost)
