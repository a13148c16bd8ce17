use Rattle.fluid_voice.proofs.Ahead.{others_connect}
use Rattle.fluid_voice.proofs.laws.others_connect.Goals as goal

pub returns : goal.returns
returns c = others_connect
