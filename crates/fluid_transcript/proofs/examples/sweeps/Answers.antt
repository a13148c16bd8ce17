use Rattle.fluid_transcript.proofs.Computed.{sweeps}
use Rattle.fluid_transcript.proofs.examples.sweeps.Goals as goal

pub returns : goal.returns
returns c = sweeps
