use Rattle.fluid_core.proofs.Entered.{start-stands}
use Rattle.fluid_core.proofs.entering.Core.new.Goals as goal

pub returns-clause-stands : goal.returns-clause-stands
returns-clause-stands c = rw (c.new.ensures.start, c.new-2.ensures.start) start-stands
