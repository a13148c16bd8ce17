use Rattle.fluid_transcript.proofs.Rowed.{one_row}
use Rattle.fluid_transcript.proofs.laws.submissions_are_one_row.Goals as goal

pub returns : goal.returns
returns c = one_row
