use Rattle.fluid_voice.proofs.Computed.{ranges}
use Rattle.fluid_voice.proofs.examples.ranges.Goals as goal

pub returns : goal.returns
returns c = ranges
