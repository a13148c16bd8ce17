use Rattle.std.proofs.Common.{◌≡◌, ◌+◌, ◌≤◌, ◌<◌, suc, length}
use Rattle.fluid_clients.specs.Rounds.{IsTournamentBut}
use Rattle.fluid_clients.proofs.Played.{IsBelow}
use Rattle.fluid_clients.proofs.index.replay.Given as goal

-- the rounds so far are right, the node is the slot's, and each round took a step
abbrev pub invariant-loop-round : goal.invariant-loop-round
invariant-loop-round g l =
    IsTournamentBut g.T.Rank.number l.slots l.rounds.items l.slot (suc l.round)
    × (length l.rounds.items ≡ length l.fn.rounds.items)
    × IsBelow l.slot l.round l.node
    × (l.steps ≤ l.fn.steps + l.round)
