use Rattle.std.proofs.Common.{◌≡◌, take}
use Rattle.fluid_clients.proofs.round.Round.copy.Given as goal

-- the nodes so far
abbrev pub invariant-loop-node : goal.invariant-loop-node
invariant-loop-node l = l.nodes.items ≡ take l.node-index l.node-items
