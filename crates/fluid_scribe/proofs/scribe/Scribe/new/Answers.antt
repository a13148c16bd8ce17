use Rattle.std.proofs.Common.{rules}
use Rattle.fluid_scribe.proofs.Taken.{stands-start}
use Rattle.fluid_scribe.proofs.scribe.Scribe.new.Goals as goal

pub returns-clause-start : goal.returns-clause-start
returns-clause-start c = search rules

pub returns-clause-stands : goal.returns-clause-stands
returns-clause-stands c = stands-start _ (returns-clause-start c)
