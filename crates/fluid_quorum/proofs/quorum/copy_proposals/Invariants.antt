use Rattle.std.proofs.Common.{◌≡◌, ◌++◌, drop}
use Rattle.fluid_quorum.proofs.quorum.copy_proposals.Given as goal

-- the copies so far, and what is left
abbrev pub invariant-loop-index : goal.invariant-loop-index
invariant-loop-index l = l.copies.items ++ drop l.index l.proposals.items ≡ l.proposals.items
