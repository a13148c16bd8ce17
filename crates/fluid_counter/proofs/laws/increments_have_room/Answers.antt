use Rattle.fluid_counter.proofs.Sums.{roomy_law}
use Rattle.fluid_counter.proofs.laws.increments_have_room.Goals as goal

pub returns : goal.returns
returns c = roomy_law
