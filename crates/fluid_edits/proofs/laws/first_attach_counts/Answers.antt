use Rattle.fluid_edits.proofs.Replays.{first_attach_law}
use Rattle.fluid_edits.proofs.laws.first_attach_counts.Goals as goal

pub returns : goal.returns
returns c = first_attach_law
