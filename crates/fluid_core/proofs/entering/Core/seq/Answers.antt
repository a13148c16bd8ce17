use Rattle.fluid_core.proofs.Entered.{stands-sequencer}
use Rattle.fluid_core.proofs.entering.Core.seq.Goals as goal

pub returns-clause-stands : goal.returns-clause-stands
returns-clause-stands c = λ ledger stands. c.seq.ensures.stands ledger (rw (← c.self.view_is) at (stands-sequencer _ ledger stands))
