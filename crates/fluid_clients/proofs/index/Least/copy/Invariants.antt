use Rattle.std.proofs.Common.{◌≡◌, take}
use Rattle.fluid_clients.proofs.index.Least.copy.Given as goal

-- the slots so far
abbrev pub invariant-loop-value : goal.invariant-loop-value
invariant-loop-value g l = l.slots.items ≡ take l.value-index l.value-items

-- the rounds so far
abbrev pub invariant-loop-round : goal.invariant-loop-round
invariant-loop-round g l = l.rounds.items ≡ take l.round-index l.round-items
