use Rattle.fluid_rules.proofs.Growth.{nack-minimum, nack-seq}
use Rattle.fluid_rules.proofs.laws.nack_leaves_order.Goals as goal

pub returns : goal.returns
returns c = λ l raw n legal. record { same_minimum = nack-minimum l raw n legal; same_seq = nack-seq l raw n }
