use Rattle.fluid_rules.proofs.Taken.{absorbed-lifts}
use Rattle.fluid_rules.proofs.laws.absorbed_lifts.Goals as goal

pub returns : goal.returns
returns c = absorbed-lifts
