use Rattle.fluid_transcript.proofs.LinesComputed.{first_use}
use Rattle.fluid_transcript.proofs.examples.first_use.Goals as goal

pub returns : goal.returns
returns c = first_use
