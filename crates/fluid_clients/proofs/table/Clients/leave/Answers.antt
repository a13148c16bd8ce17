use Rattle.std.proofs.Common.{◌≡◌, ◌+◌, ◌-◌, ◌*◌, ◌^◌, ◌≤◌, ◌++◌, ◌∷◌, [], length, Some, None, sym, ap, subst, is_some, ◌∙◌, arith, true, false}
use Rattle.std.specs.Vec.{vec_capacity}
use Rattle.std.proofs.lemmas.Bool.{false≢true}
use Rattle.std.proofs.lemmas.Option.{none-some}
use Rattle.fluid_table.proofs.KeyedPlaces.{get_gap, remove_gap}
use Rattle.fluid_clients.specs.Seats.{id_of, row_of, AreSeated}
use Rattle.fluid_clients.proofs.Seating.{slot-there, row-there, rows-left, kept-left, slots-count, roomier}
use Rattle.fluid_clients.proofs.table.Clients.leave.Goals as goal

pub clear-requires : goal.clear-requires
clear-requires g c = slot-there c.self.inside.seats.items c.self.inside.index c.self.inside.free.items (vec_capacity c.self.inside.seats) (vec_capacity c.self.inside.free) c.self.invariant c.args.id.now _
    (rw c.deref.ensures.value at c.in-Ok.ensures.found) c.remove-slot.result c.remove-slot.ensures.value

pub invariant_of-self : goal.invariant_of-self
invariant_of-self g c =
    rw (c.remove-slot.ensures.items, c.clear.ensures.cleared, rw c.unwrap.ensures at c.push.ensures.items)
    (roomier _ _ _ _ _ (vec_capacity c.remove-slot.new.self) (vec_capacity c.push.new.self) (kept-left c.self.inside.seats.items c.self.inside.index c.self.inside.free.items (vec_capacity c.self.inside.seats) (vec_capacity c.self.inside.free) c.self.invariant c.args.id.now _
    (rw c.deref.ensures.value at c.in-Ok.ensures.found) c.remove-slot.result c.remove-slot.ensures.value)
    (omega (arith, c.remove-slot.ensures.capacity)) c.push.ensures.capacity)

pub returns-in-Ok-clause-was : goal.returns-in-Ok-clause-was
returns-in-Ok-clause-was g c = rw (← c.self.view_is) (sym (ap is_some (row-there c.self.inside.seats.items c.self.inside.index c.self.inside.free.items (vec_capacity c.self.inside.seats) (vec_capacity c.self.inside.free) c.self.invariant c.args.id.now _
    (rw c.deref.ensures.value at c.in-Ok.ensures.found) c.remove-slot.result c.remove-slot.ensures.value)))

pub returns-in-Ok-clause-left : goal.returns-in-Ok-clause-left
returns-in-Ok-clause-left g c = rw (c.remove-slot.ensures.items, ← c.self.view_is) (rows-left c.self.inside.seats.items c.self.inside.index c.self.inside.free.items (vec_capacity c.self.inside.seats) (vec_capacity c.self.inside.free) c.self.invariant c.args.id.now _
    (rw c.deref.ensures.value at c.in-Ok.ensures.found) c.remove-slot.result c.remove-slot.ensures.value)

pub returns-in-Ok-clause-cost : goal.returns-in-Ok-clause-cost
returns-in-Ok-clause-cost g c = λ joined.
    rw (← c.self.view_is) (subst (λ n. 2 ^ (c.clear.new.steps - c.args.steps.now) ≤ 2 * n) (slots-count c.self.inside.seats.items c.self.inside.index c.self.inside.free.items (vec_capacity c.self.inside.seats) (vec_capacity c.self.inside.free) c.self.invariant c.args.id.now _
    (rw c.deref.ensures.value at c.in-Ok.ensures.found) c.remove-slot.result c.remove-slot.ensures.value) c.clear.ensures.cost)

pub returns-in-Ok-clause-none : goal.returns-in-Ok-clause-none
returns-in-Ok-clause-none g c = λ absent.
    absurd (none-some _ (sym (rw (← c.self.view_is) at absent) ∙ row-there c.self.inside.seats.items c.self.inside.index c.self.inside.free.items (vec_capacity c.self.inside.seats) (vec_capacity c.self.inside.free) c.self.invariant c.args.id.now _
    (rw c.deref.ensures.value at c.in-Ok.ensures.found) c.remove-slot.result c.remove-slot.ensures.value))

pub returns-in-Err-clause-was : goal.returns-in-Err-clause-was
returns-in-Err-clause-was g c = rw (← c.self.view_is) (sym (ap is_some (get_gap id_of row_of _ c.self.invariant.order c.args.id.now _ (rw c.deref.ensures.value at c.in-Err.ensures.absent))))

pub returns-in-Err-clause-left : goal.returns-in-Err-clause-left
returns-in-Err-clause-left g c = rw (← c.self.view_is) (remove_gap id_of row_of _ c.self.invariant.order c.args.id.now _ (rw c.deref.ensures.value at c.in-Err.ensures.absent))

pub returns-in-Err-clause-cost : goal.returns-in-Err-clause-cost
returns-in-Err-clause-cost g c = λ joined.
    let none = get_gap id_of row_of _ c.self.invariant.order c.args.id.now _ (rw c.deref.ensures.value at c.in-Err.ensures.absent) in
    absurd (false≢true (sym (ap is_some none) ∙ rw (← c.self.view_is) at joined))
