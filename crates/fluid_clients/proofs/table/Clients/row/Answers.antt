use Rattle.std.proofs.Common.{ap, sym, Some, ◌∙◌}
use Rattle.fluid_table.proofs.KeyedPlaces.{get_there, get_gap}
use Rattle.fluid_clients.specs.Seats.{id_of, row_of}
use Rattle.fluid_clients.proofs.table.Clients.row.Goals as goal

pub returns-in-Ok : goal.returns-in-Ok
returns-in-Ok c =
    rw (← c.self.view_is) (ap (λ seat. Some (row_of seat)) c.index.ensures ∙ sym (get_there id_of row_of _ c.self.invariant.order c.args.id.now _ (rw c.deref.ensures.value at c.in-Ok.ensures.found) _))

pub returns-in-Err : goal.returns-in-Err
returns-in-Err c = rw (← c.self.view_is) (sym (get_gap id_of row_of _ c.self.invariant.order c.args.id.now _ (rw c.deref.ensures.value at c.in-Err.ensures.absent)))
