use Rattle.fluid_rules.proofs.Minimum.{minimum-is_least}
use Rattle.fluid_rules.proofs.laws.minimum_is_least.Goals as goal

pub returns : goal.returns
returns c = minimum-is_least
