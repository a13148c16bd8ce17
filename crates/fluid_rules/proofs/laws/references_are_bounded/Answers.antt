use Rattle.fluid_rules.proofs.Growth.{references-bounded}
use Rattle.fluid_rules.proofs.laws.references_are_bounded.Goals as goal

pub returns : goal.returns
returns c = references-bounded
