use Rattle.fluid_transcript.proofs.LinesComputed.{edits}
use Rattle.fluid_transcript.proofs.examples.edits.Goals as goal

pub returns : goal.returns
returns c = edits
