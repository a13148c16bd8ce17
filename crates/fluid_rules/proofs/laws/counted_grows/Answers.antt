use Rattle.fluid_rules.proofs.Counted.{counted-push}
use Rattle.fluid_rules.proofs.laws.counted_grows.Goals as goal

pub returns : goal.returns
returns c = counted-push
