use Rattle.std.proofs.Common.{ap, sym, ◌∙◌}
use Rattle.std.specs.Vec.{vec_capacity}
use Rattle.fluid_table.proofs.KeyedPlaces.{remove_gap}
use Rattle.fluid_clients.specs.Table.{least}
use Rattle.fluid_clients.specs.Seats.{id_of, row_of}
use Rattle.fluid_clients.proofs.Seating.{slot-there, least-others}
use Rattle.fluid_clients.proofs.table.Clients.min_without.Goals as goal

pub least_of_others-requires-clause-slot : goal.least_of_others-requires-clause-slot
least_of_others-requires-clause-slot c =
    slot-there c.self.inside.seats.items c.self.inside.index c.self.inside.free.items (vec_capacity c.self.inside.seats) (vec_capacity c.self.inside.free) c.self.invariant c.args.id.now _ (rw c.deref.ensures.value at c.in-Ok.ensures.found) c.index.result.now c.index.ensures

pub returns-in-Ok : goal.returns-in-Ok
returns-in-Ok c =
    rw (← c.self.view_is)
    (least-others c.self.inside.seats.items c.self.inside.index c.self.inside.free.items (vec_capacity c.self.inside.seats) (vec_capacity c.self.inside.free) c.self.invariant c.args.id.now _ (rw c.deref.ensures.value at c.in-Ok.ensures.found) c.index.result.now c.index.ensures c.least_of_others.result c.least_of_others.ensures)

pub returns-in-Err : goal.returns-in-Err
returns-in-Err c =
    rw (← c.self.view_is)
    (rw (← c.self.view_is) at c.min.ensures ∙ ap least (remove_gap id_of row_of _ c.self.invariant.order c.args.id.now _ (rw c.deref.ensures.value at c.in-Err.ensures.absent)))
