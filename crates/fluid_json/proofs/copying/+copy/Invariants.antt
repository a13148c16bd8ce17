use Rattle.std.proofs.Common.{◌≡◌, ◌+◌, ◌*◌, take}
use Rattle.fluid_json.specs.Tree.{depth, trees_depth, members_depth, trees, members}
use Rattle.fluid_json.proofs.copying.+copy.Given as goal

abbrev pub decreases-copy_value : goal.decreases-copy_value
decreases-copy_value l = 2 * depth l.value.now

abbrev pub decreases-copy_items : goal.decreases-copy_items
decreases-copy_items l = 2 * trees_depth (trees l.items.now) + 1

abbrev pub decreases-copy_pairs : goal.decreases-copy_pairs
decreases-copy_pairs l = 2 * members_depth (members l.pairs.now) + 1

abbrev pub invariant-copy_items-loop-item : goal.invariant-copy_items-loop-item
invariant-copy_items-loop-item l = l.copies.items ≡ take l.item-index l.items

abbrev pub invariant-copy_pairs-loop-key : goal.invariant-copy_pairs-loop-key
invariant-copy_pairs-loop-key l = l.copies.items ≡ take l.key-index l.pairs
