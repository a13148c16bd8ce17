use Rattle.fluid_voice.proofs.Staying.{connected_stay}
use Rattle.fluid_voice.proofs.laws.connected_ones_stay.Goals as goal

pub returns : goal.returns
returns c = connected_stay
