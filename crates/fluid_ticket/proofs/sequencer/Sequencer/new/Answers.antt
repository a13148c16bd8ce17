use Rattle.fluid_ticket.proofs.Sound.{start-kept}
use Rattle.fluid_ticket.proofs.Ledgers.{start-stands}
use Rattle.fluid_ticket.proofs.sequencer.Sequencer.new.Goals as goal

pub invariant_of-result : goal.invariant_of-result
invariant_of-result c = rw c.new.ensures start-kept

pub returns-clause-stands : goal.returns-clause-stands
returns-clause-stands c = rw c.new.ensures start-stands
