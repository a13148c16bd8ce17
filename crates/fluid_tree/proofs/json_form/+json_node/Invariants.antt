use Rattle.std.proofs.Common.{◌≡◌, ◌+◌, ◌*◌, drop, Ok}
use Rattle.fluid_json.specs.Tree.{members}
use Rattle.fluid_tree.specs.Identity.{◌>>=◌}
use Rattle.fluid_tree.specs.FromJson.{children_by, node_within}
use Rattle.fluid_tree.proofs.Formed.{onto}
use Rattle.fluid_tree.proofs.json_form.+json_node.Given as goal

abbrev pub decreases-node_within : goal.decreases-node_within
decreases-node_within l = 3 * l.levels

abbrev pub decreases-tree_by : goal.decreases-tree_by
decreases-tree_by l = 3 * l.levels + 2

abbrev pub decreases-children_by : goal.decreases-children_by
decreases-children_by l = 3 * l.levels + 1

-- the nodes so far, and then those of the members left, are those of all
abbrev pub invariant-children_by-loop-name : goal.invariant-children_by-loop-name
invariant-children_by-loop-name l =
    children_by (node_within l.levels) (members l.entries)
    ≡ (children_by (node_within l.levels) (members (drop l.name-index l.entries)) >>= λ rest. Ok (onto l.nodes rest))
