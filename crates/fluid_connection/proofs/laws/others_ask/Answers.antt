use Rattle.fluid_connection.proofs.Choosing.{others_ask}
use Rattle.fluid_connection.proofs.laws.others_ask.Goals as goal

pub returns : goal.returns
returns c = others_ask
