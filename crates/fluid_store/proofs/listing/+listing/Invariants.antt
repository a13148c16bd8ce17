use Rattle.std.proofs.Common.{◌+◌, ◌*◌, option_map}
use Rattle.fluid_io.specs.Causes.{Tells}
use Rattle.fluid_store.specs.Fetching.{Reads}
use Rattle.fluid_store.specs.Following.{known_all}
use Rattle.fluid_store.specs.Parts.{leads_in}
use Rattle.fluid_store.proofs.Lists.{Goes}
use Rattle.fluid_store.proofs.listing.+listing.Given as goal

abbrev pub decreases-list_node : goal.decreases-list_node
decreases-list_node g l = 3 * l.levels

abbrev pub decreases-list_tree : goal.decreases-list_tree
decreases-list_tree g l = 3 * l.levels + 2

abbrev pub decreases-list_nodes : goal.decreases-list_nodes
decreases-list_nodes g l = 3 * l.levels + 1

-- the parts so far, and then those of the nodes left, are those of all
abbrev pub invariant-list_nodes-loop-name : goal.invariant-list_nodes-loop-name
invariant-list_nodes-loop-name g l = record {
  reads : Reads (g.O.Objects.seen l.fn.objects) (g.O.Objects.seen l.objects);
  goes : Tells (g.O.Objects.seen l.fn.objects).content (λ held. Goes (leads_in held (option_map known_all l.earlier)) l.levels l.nodes l.name-index l.parts);
}
