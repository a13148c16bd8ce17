use Rattle.std.proofs.Common.{ap, sym, Some, ◌∙◌}
use Rattle.std.proofs.lemmas.Option.{none-some}
use Rattle.fluid_table.proofs.KeyedPlaces.{key_read, value_read, insert_there, in_order_set, get_gap}
use Rattle.fluid_table.proofs.map.SortedMap.replace.Goals as goal

pub invariant_of-self : goal.invariant_of-self
invariant_of-self g c =
    let at = rw c.deref.ensures.value at c.in-Ok.ensures.found in
    let entry = c.index_mut.result.now in
    rw c.replace.ensures.after (in_order_set _ _ _ c.self.invariant c.args.key.now _ at (entry.0, c.args.value) (key_read _ _ _ c.self.invariant c.args.key.now _ at entry c.index_mut.ensures.value))

pub returns-in-Ok-clause-former : goal.returns-in-Ok-clause-former
returns-in-Ok-clause-former g c =
    let at = rw c.deref.ensures.value at c.in-Ok.ensures.found in
    rw (← c.self.view_is) (ap Some c.replace.ensures.value ∙ sym (value_read _ _ _ c.self.invariant c.args.key.now _ at c.index_mut.result.now c.index_mut.ensures.value))

pub returns-in-Ok-clause-replaced : goal.returns-in-Ok-clause-replaced
returns-in-Ok-clause-replaced g c = λ former is.
    let at = rw c.deref.ensures.value at c.in-Ok.ensures.found in
    let entry = c.index_mut.result.now in
    rw (c.replace.ensures.after, ← c.self.view_is)
    (insert_there _ _ _ c.self.invariant c.args.key.now _ at (entry.0, c.args.value) (key_read _ _ _ c.self.invariant c.args.key.now _ at entry c.index_mut.ensures.value))

pub returns-in-Ok-clause-absent : goal.returns-in-Ok-clause-absent
returns-in-Ok-clause-absent g c = λ none.
    let at = rw c.deref.ensures.value at c.in-Ok.ensures.found in
    absurd (none-some _ (sym (rw (← c.self.view_is) at none) ∙ value_read _ _ _ c.self.invariant c.args.key.now _ at c.index_mut.result.now c.index_mut.ensures.value))

pub returns-in-Err-clause-former : goal.returns-in-Err-clause-former
returns-in-Err-clause-former g c = rw (← c.self.view_is) (sym (get_gap _ _ _ c.self.invariant c.args.key.now _ (rw c.deref.ensures.value at c.in-Err.ensures.absent)))

pub returns-in-Err-clause-replaced : goal.returns-in-Err-clause-replaced
returns-in-Err-clause-replaced g c = λ former is.
    absurd (none-some _ (sym (get_gap _ _ _ c.self.invariant c.args.key.now _ (rw c.deref.ensures.value at c.in-Err.ensures.absent)) ∙ rw (← c.self.view_is) at is))
