use Rattle.fluid_transcript.proofs.Computed.{goes_on}
use Rattle.fluid_transcript.proofs.examples.goes_on.Goals as goal

pub returns : goal.returns
returns c = goes_on
