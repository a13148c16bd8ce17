use Rattle.fluid_doors.proofs.Answering.{new_is_kept}
use Rattle.fluid_doors.proofs.laws.new_keepers_are_kept.Goals as goal

pub returns : goal.returns
returns c = new_is_kept
