use Rattle.fluid_connection.proofs.Choosing.{connected_ask}
use Rattle.fluid_connection.proofs.laws.connected_ones_ask.Goals as goal

pub returns : goal.returns
returns c = connected_ask
