use Rattle.std.proofs.Common.{refl, sym, ◌∙◌}
use Rattle.std.specs.Vec.{vec_capacity}
use Rattle.fluid_table.proofs.KeyedPlaces.{get_gap}
use Rattle.fluid_clients.specs.declared.table.Row.{Row}
use Rattle.fluid_clients.specs.Seats.{id_of, row_of}
use Rattle.fluid_clients.proofs.Laws.{change-there, change-absent}
use Rattle.fluid_clients.proofs.Seating.{row-there, rows-changed, kept-heard}
use Rattle.fluid_clients.proofs.table.Clients.hear.Goals as goal

pub invariant_of-self : goal.invariant_of-self
invariant_of-self c =
    let hearing : Row → Row = λ row. record row { heard = c.args.moment } in
    kept-heard c.self.inside.seats.items c.self.inside.index c.self.inside.free.items (vec_capacity c.self.inside.seats) (vec_capacity c.self.inside.free) c.self.invariant c.args.id.now _
    (rw c.deref.ensures.value at c.in-Ok.ensures.found) c.index_mut.result.now c.index_mut.ensures.value (hearing c.index_mut.result.now.row) refl

pub returns-in-Ok-clause-heard : goal.returns-in-Ok-clause-heard
returns-in-Ok-clause-heard c =
    let hearing : Row → Row = λ row. record row { heard = c.args.moment } in
    rw (← c.self.view_is)
    (rows-changed c.self.inside.seats.items c.self.inside.index c.self.inside.free.items (vec_capacity c.self.inside.seats) (vec_capacity c.self.inside.free) c.self.invariant c.args.id.now _
    (rw c.deref.ensures.value at c.in-Ok.ensures.found) c.index_mut.result.now c.index_mut.ensures.value (hearing c.index_mut.result.now.row)
    ∙ sym (change-there _ c.args.id.now hearing _ (row-there c.self.inside.seats.items c.self.inside.index c.self.inside.free.items (vec_capacity c.self.inside.seats) (vec_capacity c.self.inside.free) c.self.invariant c.args.id.now _
    (rw c.deref.ensures.value at c.in-Ok.ensures.found) c.index_mut.result.now c.index_mut.ensures.value)))

pub returns-in_default-clause-heard : goal.returns-in_default-clause-heard
returns-in_default-clause-heard c =
    let gap = rw c.deref.ensures.value at c.in_default.ensures.absent in
    rw (← c.self.view_is)
    (sym (change-absent _ c.args.id.now (λ row. record row { heard = c.args.moment }) (get_gap id_of row_of _ c.self.invariant.order c.args.id.now _ gap)))
