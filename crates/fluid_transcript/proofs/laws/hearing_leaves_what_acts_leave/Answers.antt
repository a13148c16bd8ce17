use Rattle.fluid_transcript.proofs.Leaving.{leaves}
use Rattle.fluid_transcript.proofs.laws.hearing_leaves_what_acts_leave.Goals as goal

pub returns : goal.returns
returns c = leaves
