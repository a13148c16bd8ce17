use Rattle.fluid_rules.proofs.Growth.{minimum-grows}
use Rattle.fluid_rules.proofs.laws.minimum_never_falls.Goals as goal

pub returns : goal.returns
returns c = minimum-grows
