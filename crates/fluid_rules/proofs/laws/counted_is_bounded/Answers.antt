use Rattle.fluid_rules.proofs.Counted.{counted-le_length}
use Rattle.fluid_rules.proofs.laws.counted_is_bounded.Goals as goal

pub returns : goal.returns
returns c = counted-le_length
