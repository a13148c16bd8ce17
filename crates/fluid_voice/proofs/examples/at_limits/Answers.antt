use Rattle.fluid_voice.proofs.Computed.{at_limits}
use Rattle.fluid_voice.proofs.examples.at_limits.Goals as goal

pub returns : goal.returns
returns c = at_limits
