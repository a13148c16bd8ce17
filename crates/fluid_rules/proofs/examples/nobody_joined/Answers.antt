use Rattle.fluid_rules.proofs.ReportsComputed.{nobody_joined}
use Rattle.fluid_rules.proofs.examples.nobody_joined.Goals as goal

pub returns : goal.returns
returns c = nobody_joined
