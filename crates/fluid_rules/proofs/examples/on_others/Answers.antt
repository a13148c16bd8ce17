use Rattle.fluid_rules.proofs.ReportsComputed.{on_others}
use Rattle.fluid_rules.proofs.examples.on_others.Goals as goal

pub returns : goal.returns
returns c = on_others
