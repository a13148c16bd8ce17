use Rattle.std.proofs.Common.{◌≡◌, ℕ, refl, ap, ◌∙◌}
use Rattle.fluid_table.specs.Table.{Table, Values}
use Rattle.fluid_table.proofs.KeyedPlaces.{key_read, value_read, insert_there, in_order_set}
use Rattle.fluid_table.proofs.map.SortedMap.lent.Goals as goal

pub invariant_of-self-lent : goal.invariant_of-self-lent
invariant_of-self-lent g c = λ w.
    let at = rw c.deref.ensures.value at c.place_of-at.ensures in
    let entry = c.index_mut-pair.result.now in
    in_order_set _ _ _ c.self.invariant c.args.key.now _ at (entry.0, w) (key_read _ _ _ c.self.invariant c.args.key.now _ at entry c.index_mut-pair.ensures.value)

with_values : {V : Type 0} (spare : ℕ) (one other : Values V) → one ≡ other → ◌≡◌ {A = Table V} (record { values = one; spare = spare }) (record { values = other; spare = spare })
with_values spare one other same = ap (λ values. record { values = values; spare = spare }) same

pub returns : goal.returns
returns g c =
    let at = rw c.deref.ensures.value at c.place_of-at.ensures in
    let entry = c.index_mut-pair.result.now in
    let key = key_read _ _ _ c.self.invariant c.args.key.now _ at entry c.index_mut-pair.ensures.value in
    rw (← c.self.view_is) (
      (refl, λ w. with_values _ _ _ (insert_there _ _ _ c.self.invariant c.args.key.now _ at (entry.0, w) key)),
      value_read _ _ _ c.self.invariant c.args.key.now _ at entry c.index_mut-pair.ensures.value,
    )
