use Rattle.fluid_rules.proofs.Computed.{below_minimum}
use Rattle.fluid_rules.proofs.examples.below_minimum.Goals as goal

pub returns : goal.returns
returns c = below_minimum
