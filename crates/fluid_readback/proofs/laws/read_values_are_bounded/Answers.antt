use Rattle.fluid_readback.proofs.Values.{values_are_bounded}
use Rattle.fluid_readback.proofs.laws.read_values_are_bounded.Goals as goal

pub returns : goal.returns
returns c = values_are_bounded
