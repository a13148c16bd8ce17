use Rattle.fluid_rules.proofs.Computed.{what_the_last_says}
use Rattle.fluid_rules.proofs.examples.what_the_last_says.Goals as goal

pub returns : goal.returns
returns c = what_the_last_says
