use Rattle.fluid_rules.proofs.Refusals.{refusals-at_most_one}
use Rattle.fluid_rules.proofs.laws.refused_once.Goals as goal

pub returns : goal.returns
returns c = refusals-at_most_one
