use Rattle.fluid_rules.proofs.ReportsComputed.{built_on_another}
use Rattle.fluid_rules.proofs.examples.built_on_another.Goals as goal

pub returns : goal.returns
returns c = built_on_another
