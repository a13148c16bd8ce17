use Rattle.fluid_types.proofs.Ledgers.{seq-le_length}
use Rattle.fluid_rules.proofs.laws.seq_is_bounded.Goals as goal

pub returns : goal.returns
returns c = seq-le_length
