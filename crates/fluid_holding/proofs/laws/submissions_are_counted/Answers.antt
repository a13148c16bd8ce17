use Rattle.fluid_holding.proofs.Entered.{submits_as_defined}
use Rattle.fluid_holding.proofs.laws.submissions_are_counted.Goals as goal

pub returns : goal.returns
returns c = submits_as_defined c.containers.ensures.stay
