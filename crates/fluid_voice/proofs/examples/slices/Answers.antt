use Rattle.fluid_voice.proofs.Computed.{slices}
use Rattle.fluid_voice.proofs.examples.slices.Goals as goal

pub returns : goal.returns
returns c = slices
