use Rattle.fluid_voice.proofs.Computed.{two_acks}
use Rattle.fluid_voice.proofs.examples.two_acks.Goals as goal

pub returns : goal.returns
returns c = two_acks
