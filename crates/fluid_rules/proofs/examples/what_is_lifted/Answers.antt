use Rattle.fluid_rules.proofs.Computed.{what_is_lifted}
use Rattle.fluid_rules.proofs.examples.what_is_lifted.Goals as goal

pub returns : goal.returns
returns c = what_is_lifted
