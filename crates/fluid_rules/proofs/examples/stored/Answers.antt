use Rattle.fluid_rules.proofs.ReportsComputed.{stored}
use Rattle.fluid_rules.proofs.examples.stored.Goals as goal

pub returns : goal.returns
returns c = stored
