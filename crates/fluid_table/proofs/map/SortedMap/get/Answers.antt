use Rattle.std.proofs.Common.{ap, sym, Some, ◌∙◌}
use Rattle.fluid_table.proofs.KeyedPlaces.{get_there, get_gap}
use Rattle.fluid_table.proofs.map.SortedMap.get.Goals as goal

pub returns-in-Ok : goal.returns-in-Ok
returns-in-Ok g c =
    rw (← c.self.view_is) (ap (λ pair. Some pair.1) c.index.ensures ∙ sym (get_there _ _ _ c.self.invariant c.args.key.now _ (rw c.deref.ensures.value at c.in-Ok.ensures.found) _))

pub returns-in-Err : goal.returns-in-Err
returns-in-Err g c = rw (← c.self.view_is) (sym (get_gap _ _ _ c.self.invariant c.args.key.now _ (rw c.deref.ensures.value at c.in-Err.ensures.absent)))
