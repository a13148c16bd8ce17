use Rattle.std.proofs.Common.{◌≡◌, ℕ, ◌<◌, ◌≤◌, suc, length}
use Rattle.fluid_clients.specs.Rounds.{first, round_of, IsTournament}
use Rattle.fluid_clients.proofs.Played.{IsBelow}
use Rattle.fluid_clients.proofs.index.widen.Given as goal

-- the rounds so far have room for one slot more, which will be below the node
abbrev pub invariant-loop-round : goal.invariant-loop-round
invariant-loop-round g l =
    IsTournament g.T.Rank.number l.slots l.rounds.items
    × (length l.rounds.items ≡ length l.fn.rounds.items)
    × IsBelow (length l.slots) l.round l.node
    × ((k : ℕ) → k < l.round → suc (length l.slots) ≤ first k (length (round_of l.rounds.items k)))
