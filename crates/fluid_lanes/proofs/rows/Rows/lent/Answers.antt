use Rattle.std.proofs.Common.{◌≡◌, ℕ, refl, ap}
use Rattle.fluid_table.specs.Table.{Table, Values}
use Rattle.fluid_table.proofs.KeyedPlaces.{key_read, value_read, insert_there, in_order_set}
use Rattle.fluid_lanes.specs.Rows.{name_of, value_of}
use Rattle.fluid_lanes.proofs.rows.Rows.lent.Goals as goal

pub invariant_of-self-lent : goal.invariant_of-self-lent
invariant_of-self-lent g c = λ w.
    let at = rw c.deref.ensures.value at c.place_of-at.ensures in
    let row = c.index_mut-row.result.now in
    in_order_set name_of value_of _ c.self.invariant c.args.name.now _ at (row.0, w) (key_read name_of value_of _ c.self.invariant c.args.name.now _ at row c.index_mut-row.ensures.value)

with_values : {V : Type 0} (spare : ℕ) (one other : Values V) → one ≡ other → ◌≡◌ {A = Table V} (record { values = one; spare = spare }) (record { values = other; spare = spare })
with_values spare one other same = ap (λ values. record { values = values; spare = spare }) same

pub returns : goal.returns
returns g c =
    let at = rw c.deref.ensures.value at c.place_of-at.ensures in
    let row = c.index_mut-row.result.now in
    let key = key_read name_of value_of _ c.self.invariant c.args.name.now _ at row c.index_mut-row.ensures.value in
    rw (← c.self.view_is) (
      (refl, λ w. with_values _ _ _ (insert_there name_of value_of _ c.self.invariant c.args.name.now _ at (row.0, w) key)),
      record { lends = tt; value = value_read name_of value_of _ c.self.invariant c.args.name.now _ at row c.index_mut-row.ensures.value },
    )
