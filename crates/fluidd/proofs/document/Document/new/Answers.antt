use Rattle.std.proofs.Common.{refl, sym}
use Rattle.fluid_rules.proofs.Counted.{counted-none}
use Rattle.fluidd.proofs.document.Document.new.Goals as goal

pub returns-clause-stands : goal.returns-clause-stands
returns-clause-stands c = record { limited = refl; core = c.new.ensures.stands; counted = sym counted-none }
