use Rattle.fluid_rules.proofs.Computed.{two_joins}
use Rattle.fluid_rules.proofs.examples.two_joins.Goals as goal

pub returns : goal.returns
returns c = two_joins
