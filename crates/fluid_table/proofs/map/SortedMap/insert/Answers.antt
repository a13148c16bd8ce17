use Rattle.std.proofs.Common.{refl, sym}
use Rattle.fluid_table.proofs.KeyedPlaces.{insert_there, in_order_set, insert_gap, in_order_inserted}
use Rattle.fluid_table.proofs.map.SortedMap.insert.Goals as goal

pub invariant_of-self : goal.invariant_of-self
invariant_of-self g c = in_order_set _ _ _ c.self.invariant _ _ (rw (c.deref.ensures.value, c.text.ensures) at c.in-Ok.ensures.found) (c.args.key, c.args.value) refl

pub returns-in-Ok-clause-values : goal.returns-in-Ok-clause-values
returns-in-Ok-clause-values g c =
    rw (← c.self.view_is) (insert_there _ _ _ c.self.invariant _ _ (rw (c.deref.ensures.value, c.text.ensures) at c.in-Ok.ensures.found) (c.args.key, c.args.value) refl)

pub invariant_of-self-in-Err : goal.invariant_of-self-in-Err
invariant_of-self-in-Err g c =
    let gap = rw (c.deref.ensures.value, c.text.ensures) at c.in-Err.ensures.absent in
    rw (rw c.unwrap.ensures at c.insert.ensures.items) (in_order_inserted _ _ _ c.self.invariant _ _ gap (c.args.key, c.args.value) refl)

pub returns-in-Err-clause-values : goal.returns-in-Err-clause-values
returns-in-Err-clause-values g c =
    let gap = rw (c.deref.ensures.value, c.text.ensures) at c.in-Err.ensures.absent in
    rw (rw c.unwrap.ensures at c.insert.ensures.items, ← c.self.view_is) (insert_gap _ _ _ c.self.invariant _ _ gap (c.args.key, c.args.value) refl)
