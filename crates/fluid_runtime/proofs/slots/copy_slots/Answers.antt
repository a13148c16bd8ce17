use Rattle.std.proofs.Common.{◌≡◌, ap, subst, sym, ◌∙◌}
use Rattle.std.specs.FinMap.{entries, from_sorted}
use Rattle.fluid_table.proofs.Places.{AreInOrder, is_true, same_pairs}
use Rattle.fluid_runtime.specs.Slots.{settled_slot}
use Rattle.fluid_runtime.proofs.Each.{mapped, in_order_each}
use Rattle.fluid_runtime.proofs.Nodes.{listed}
use Rattle.fluid_runtime.proofs.slots.copy_slots.Goals as goal

pub of_sorted-requires : goal.of_sorted-requires
of_sorted-requires c =
    let copies_are : c.in_ok-pairs.pairs.items ≡ mapped settled_slot (entries c.args.slots.now.values) =
    c.in_ok-pairs.ensures ∙ ap (mapped settled_slot) (listed c.args.slots.now.values _ c.as_slice.ensures) in
    subst AreInOrder (sym (same_pairs c.in_ok-pairs.pairs.items ∙ copies_are)) (is_true _ (in_order_each settled_slot c.args.slots.now.values))

pub returns : goal.returns
returns c =
    c.of_sorted.ensures
    ∙ ap from_sorted
    (same_pairs c.in_ok-pairs.pairs.items ∙ c.in_ok-pairs.ensures ∙ ap (mapped settled_slot) (listed c.args.slots.now.values _ c.as_slice.ensures))
