use Rattle.fluid_rules.proofs.ReportsComputed.{not_stored}
use Rattle.fluid_rules.proofs.examples.not_stored.Goals as goal

pub returns : goal.returns
returns c = not_stored
