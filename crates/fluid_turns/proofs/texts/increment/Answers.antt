use Rattle.std.proofs.lemmas.Int.{to_z-of_z}
use Rattle.fluid_turns.proofs.Fitted.{increment_short_as}
use Rattle.fluid_turns.proofs.texts.increment.Goals as goal

pub returns-clause-short : goal.returns-clause-short
returns-clause-short c = increment_short_as c.args.amount _ c.in_ok-counter.counter c.ranges.amount c.in_ok-counter.ensures (to_z-of_z _ _ c.ranges.amount)
