use Rattle.std.proofs.Common.{arith}
use Rattle.fluid_ticket.proofs.Sound.{minimum-le-sequence}
use Rattle.fluid_ticket.proofs.sequencer.Sequencer.outcome.Goals as goal

pub outcome_by-requires-clause-below : goal.outcome_by-requires-clause-below
outcome_by-requires-clause-below c =
    let small = minimum-le-sequence _ c.self.invariant.sound in
    omega (arith, c.self.invariant.is_minimum, small, c.self.invariant.sound.few)
