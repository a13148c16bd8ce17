use Rattle.std.proofs.Common.{◌≡◌, ◌+◌, ◌*◌, take}
use Rattle.fluid_io.specs.Causes.{Tells}
use Rattle.fluid_loader.specs.Calls.{FetchesIn, LoadReads}
use Rattle.fluid_loader.specs.Version.{HasId, IsIn, nodes_within}
use Rattle.fluid_loader.proofs.version.+nodes.Given as goal

abbrev pub decreases-read_node : goal.decreases-read_node
decreases-read_node g l = 3 * l.levels

abbrev pub decreases-read_nodes : goal.decreases-read_nodes
decreases-read_nodes g l = 3 * l.levels + 1

abbrev pub decreases-read_tree : goal.decreases-read_tree
decreases-read_tree g l = 3 * l.levels + 2

-- the nodes so far
abbrev pub invariant-read_nodes-loop-entry : goal.invariant-read_nodes-loop-entry
invariant-read_nodes-loop-entry g l = record {
  lent : g.L.Link.lent l.link ≡ g.L.Link.lent l.fn.link;
  reads : LoadReads (g.L.Link.seen l.fn.link) (g.L.Link.seen l.link);
  fetched : FetchesIn (λ d one. HasId (IsIn d.held l.levels one) l.entries) (g.L.Link.seen l.fn.link) (g.L.Link.seen l.link);
  nodes : Tells (g.L.Link.seen l.fn.link).told (λ document. l.nodes ≡ nodes_within document.held l.levels (take l.entry-index l.entries));
}
