use Rattle.fluid_transcript.proofs.Computed.{loads}
use Rattle.fluid_transcript.proofs.examples.loads.Goals as goal

pub returns : goal.returns
returns c = loads
