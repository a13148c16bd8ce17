use Rattle.fluid_rules.proofs.Growth.{minimum-bounded}
use Rattle.fluid_rules.proofs.laws.minimum_is_bounded.Goals as goal

pub returns : goal.returns
returns c = minimum-bounded
