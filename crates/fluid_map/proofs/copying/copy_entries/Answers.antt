use Rattle.std.proofs.Common.{◌≡◌, ap, subst, sym, ◌∙◌}
use Rattle.std.specs.FinMap.{entries, from_sorted}
use Rattle.fluid_table.proofs.Places.{AreInOrder, same_pairs}
use Rattle.fluid_map.proofs.Contents.{entries_in_order, same_again}
use Rattle.fluid_map.proofs.copying.copy_entries.Goals as goal

pub of_sorted-requires : goal.of_sorted-requires
of_sorted-requires c =
    rw c.in_ok-pairs.ensures (subst AreInOrder (sym c.as_slice.ensures) (entries_in_order c.args.entries.now.values))

pub returns : goal.returns
returns c =
    let pairs_are : c.in_ok-pairs.pairs.items ≡ entries c.args.entries.now.values =
    c.in_ok-pairs.ensures ∙ sym (same_pairs c.as_slice.result.now) ∙ c.as_slice.ensures in
    c.of_sorted.ensures ∙ ap from_sorted (same_pairs c.in_ok-pairs.pairs.items ∙ pairs_are) ∙ same_again c.args.entries.now.values
