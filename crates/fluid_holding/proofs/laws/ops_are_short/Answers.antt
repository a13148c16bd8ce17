use Rattle.fluid_holding.proofs.Short.{ops_are_short as proved}
use Rattle.fluid_holding.proofs.laws.ops_are_short.Goals as goal

pub returns : goal.returns
returns c = proved
