use Rattle.std.proofs.Common.{◌≡◌, drop}
use Rattle.fluid_scribe.specs.State.{least_with}
use Rattle.fluid_scribe.proofs.waiting.least_of.Given as goal

-- the least so far, with those not yet looked at, is that of all
abbrev pub invariant-loop-index : goal.invariant-loop-index
invariant-loop-index l = least_with l.least (drop l.index l.messages.items) ≡ least_with l.minimum l.messages.items
