use Rattle.fluid_rules.proofs.Taken.{sequenced-taken, absorbed-taken}
use Rattle.fluid_rules.proofs.laws.numbers_rise.Goals as goal

pub returns : goal.returns
returns c = record { sequenced = sequenced-taken; absorbed = absorbed-taken }
