use Rattle.std.proofs.Common.{◌+◌, ◌≤◌, suc, set, None}
use Rattle.fluid_clients.specs.Rounds.{first, IsBest}
use Rattle.fluid_clients.proofs.Played.{IsBelow}
use Rattle.fluid_clients.proofs.index.winner_without.Given as goal

-- the winner is the best below the node without the slot, and each round took a step
abbrev pub invariant-loop-round : goal.invariant-loop-round
invariant-loop-round g l =
    IsBest g.T.Rank.number (set l.slots l.slot None) (first l.round l.node) (first l.round (suc l.node)) l.winner
    × IsBelow l.slot l.round l.node
    × (l.steps ≤ l.fn.steps + l.round)
