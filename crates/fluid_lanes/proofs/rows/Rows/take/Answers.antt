use Rattle.std.proofs.Common.{sym}
use Rattle.fluid_table.proofs.KeyedPlaces.{remove_there, remove_gap, in_order_removed, value_read, get_gap}
use Rattle.fluid_lanes.proofs.rows.Rows.take.Goals as goal

pub invariant_of-self : goal.invariant_of-self
invariant_of-self g c =
    rw c.remove-value.ensures.items (in_order_removed _ _ _ c.self.invariant c.args.name.now _ (rw c.deref.ensures.value at c.in-Ok.ensures.found) c.remove-value.result)

pub returns-in-Ok-clause-values : goal.returns-in-Ok-clause-values
returns-in-Ok-clause-values g c =
    rw (c.remove-value.ensures.items, ← c.self.view_is)
    (remove_there _ _ _ c.self.invariant c.args.name.now _ (rw c.deref.ensures.value at c.in-Ok.ensures.found) c.remove-value.result)

pub returns-in-Err-clause-values : goal.returns-in-Err-clause-values
returns-in-Err-clause-values g c = rw (← c.self.view_is) (remove_gap _ _ _ c.self.invariant c.args.name.now _ (rw c.deref.ensures.value at c.in-Err.ensures.absent))

pub returns-in-Ok-clause-former : goal.returns-in-Ok-clause-former
returns-in-Ok-clause-former g c =
    rw (← c.self.view_is)
    (sym (value_read _ _ _ c.self.invariant c.args.name.now _ (rw c.deref.ensures.value at c.in-Ok.ensures.found) c.remove-value.result c.remove-value.ensures.value))

pub returns-in-Err-clause-former : goal.returns-in-Err-clause-former
returns-in-Err-clause-former g c = rw (← c.self.view_is) (sym (get_gap _ _ _ c.self.invariant c.args.name.now _ (rw c.deref.ensures.value at c.in-Err.ensures.absent)))
