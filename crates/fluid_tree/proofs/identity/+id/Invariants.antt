use Rattle.std.proofs.Common.{◌≡◌, ◌+◌, ◌*◌, ◌++◌, drop, Ok}
use Rattle.fluid_tree.specs.Summary.{children}
use Rattle.fluid_tree.specs.Identity.{entries_within, ◌>>=◌}
use Rattle.fluid_tree.proofs.identity.+id.Given as goal

abbrev pub decreases-id_within : goal.decreases-id_within
decreases-id_within l = 3 * l.levels

abbrev pub decreases-tree_id : goal.decreases-tree_id
decreases-tree_id l = 3 * l.levels + 2

abbrev pub decreases-entries_within : goal.decreases-entries_within
decreases-entries_within l = 3 * l.levels + 1

-- the entries so far, and then those of the nodes left, are those of all
abbrev pub invariant-entries_within-loop-name : goal.invariant-entries_within-loop-name
invariant-entries_within-loop-name l =
    entries_within l.levels (children l.nodes) ≡ (entries_within l.levels (children (drop l.name-index l.nodes)) >>= λ rest. Ok (l.entries.items ++ rest))
