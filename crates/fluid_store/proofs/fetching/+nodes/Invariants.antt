use Rattle.std.proofs.Common.{◌+◌, ◌*◌}
use Rattle.fluid_io.specs.Causes.{Tells}
use Rattle.fluid_store.specs.Fetching.{Reads, child_by, node_within}
use Rattle.fluid_store.proofs.Fetched.{Goes}
use Rattle.fluid_store.proofs.fetching.+nodes.Given as goal

abbrev pub decreases-node_of : goal.decreases-node_of
decreases-node_of g l = 3 * l.levels

abbrev pub decreases-tree_of : goal.decreases-tree_of
decreases-tree_of g l = 3 * l.levels + 2

abbrev pub decreases-child_of : goal.decreases-child_of
decreases-child_of g l = 3 * l.levels + 1

-- the nodes so far, and then those of the entries left, are those of all
abbrev pub invariant-tree_of-loop-entry : goal.invariant-tree_of-loop-entry
invariant-tree_of-loop-entry g l = record {
  reads : Reads (g.O.Objects.seen l.fn.objects) (g.O.Objects.seen l.objects);
  goes : Tells (g.O.Objects.seen l.fn.objects).content (λ held. Goes (child_by held (node_within held l.levels)) l.entries l.entry-index l.nodes);
}
