use Rattle.std.proofs.Common.{◌≡◌, ◌+◌, ◌-◌, ◌*◌, ◌^◌, ◌≤◌, ◌++◌, ◌∷◌, [], length, refl, ap, subst, ◌∙◌, arith}
use Rattle.std.specs.Vec.{vec_capacity}
use Rattle.std.specs.FinMap.{insert}
use Rattle.fluid_clients.specs.declared.table.Seat.{Seat}
use Rattle.fluid_clients.specs.Table.{Table}
use Rattle.fluid_clients.specs.Seats.{AreSeated}
use Rattle.fluid_clients.proofs.Seating.{rows_in, slot-free, rows-joined, kept-joined, joined-count, roomier}
use Rattle.fluid_clients.proofs.table.Clients.join.Goals as goal

pub set-requires : goal.set-requires
set-requires g c =
    let kept =
    subst (λ free. AreSeated c.self.inside.seats.items c.self.inside.index free (vec_capacity c.self.inside.seats) (vec_capacity c.self.inside.free)) (rw c.unwrap-slot.ensures at c.pop.ensures.items) c.self.invariant in
    slot-free c.self.inside.seats.items c.self.inside.index c.pop.new.self.items c.unwrap-slot.result _ _ kept

pub invariant_of-self : goal.invariant_of-self
invariant_of-self g c =
    let kept =
    subst (λ free. AreSeated c.self.inside.seats.items c.self.inside.index free (vec_capacity c.self.inside.seats) (vec_capacity c.self.inside.free)) (rw c.unwrap-slot.ensures at c.pop.ensures.items) c.self.invariant in
    let seat : Seat = record { id = c.args.id; row = c.args.row; slot = c.unwrap-slot.result } in
    rw (rw c.unwrap.ensures at c.insert.ensures.items, c.set.ensures.set)
    (roomier _ _ c.pop.new.self.items _ _ (vec_capacity c.insert.new.self) (vec_capacity c.pop.new.self)
    (kept-joined c.self.inside.seats.items c.self.inside.index c.pop.new.self.items c.unwrap-slot.result _ _ kept c.gap-at.result seat refl (rw c.deref.ensures.value at c.gap-at.ensures))
    c.insert.ensures.capacity (omega (arith, c.pop.ensures.capacity)))

pub returns-clause-joined : goal.returns-clause-joined
returns-clause-joined g c =
    let kept =
    subst (λ free. AreSeated c.self.inside.seats.items c.self.inside.index free (vec_capacity c.self.inside.seats) (vec_capacity c.self.inside.free)) (rw c.unwrap-slot.ensures at c.pop.ensures.items) c.self.invariant in
    let seat : Seat = record { id = c.args.id; row = c.args.row; slot = c.unwrap-slot.result } in
    rw (rw c.unwrap.ensures at c.insert.ensures.items)
    (rows-joined c.self.inside.seats.items c.self.inside.index c.pop.new.self.items c.unwrap-slot.result _ _ kept c.gap-at.result seat refl (rw c.deref.ensures.value at c.gap-at.ensures)
    ∙ ap (λ (t : Table). insert t.rows c.args.id c.args.row) c.self.view_is ∙ ap (λ rows. insert rows c.args.id c.args.row) c.reserve.ensures.same)

pub returns-clause-cost : goal.returns-clause-cost
returns-clause-cost g c =
    let kept =
    subst (λ free. AreSeated c.self.inside.seats.items c.self.inside.index free (vec_capacity c.self.inside.seats) (vec_capacity c.self.inside.free)) (rw c.unwrap-slot.ensures at c.pop.ensures.items) c.self.invariant in
    let seat : Seat = record { id = c.args.id; row = c.args.row; slot = c.unwrap-slot.result } in
    rw (rw c.unwrap.ensures at c.insert.ensures.items)
    (subst (λ n. 2 ^ (c.set.new.steps - c.args.steps.now) ≤ 2 * n)
    (joined-count c.self.inside.seats.items c.self.inside.index c.pop.new.self.items c.unwrap-slot.result _ _ kept c.gap-at.result seat refl (rw c.deref.ensures.value at c.gap-at.ensures)) c.set.ensures.cost)
