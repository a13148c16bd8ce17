use Rattle.fluid_holding.proofs.Owned.{owned_stays_owned as proved}
use Rattle.fluid_holding.proofs.laws.owned_stays_owned.Goals as goal

pub returns : goal.returns
returns c = proved
