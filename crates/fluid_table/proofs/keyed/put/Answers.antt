use Rattle.std.proofs.Common.{refl}
use Rattle.fluid_table.proofs.KeyedPlaces.{insert_there, in_order_set, insert_gap, in_order_inserted}
use Rattle.fluid_table.proofs.keyed.put.Goals as goal

pub returns-in-Ok-clause-order : goal.returns-in-Ok-clause-order
returns-in-Ok-clause-order g c = in_order_set _ _ _ c.requires.order _ _ (rw (c.deref.ensures.value, c.key.ensures) at c.in-Ok.ensures.found) c.args.entry refl

pub returns-in-Ok-clause-table : goal.returns-in-Ok-clause-table
returns-in-Ok-clause-table g c = insert_there _ _ _ c.requires.order _ _ (rw (c.deref.ensures.value, c.key.ensures) at c.in-Ok.ensures.found) c.args.entry refl

pub returns-in-Err-clause-order : goal.returns-in-Err-clause-order
returns-in-Err-clause-order g c =
    rw (rw c.unwrap.ensures at c.insert.ensures.items) (in_order_inserted _ _ _ c.requires.order _ _ (rw (c.deref.ensures.value, c.key.ensures) at c.in-Err.ensures.absent) c.args.entry refl)

pub returns-in-Err-clause-table : goal.returns-in-Err-clause-table
returns-in-Err-clause-table g c =
    rw (rw c.unwrap.ensures at c.insert.ensures.items) (insert_gap _ _ _ c.requires.order _ _ (rw (c.deref.ensures.value, c.key.ensures) at c.in-Err.ensures.absent) c.args.entry refl)
