use Rattle.fluid_rules.proofs.Taken.{absorbed-keeps}
use Rattle.fluid_rules.proofs.laws.absorbed_keeps_order.Goals as goal

pub returns : goal.returns
returns c = absorbed-keeps
