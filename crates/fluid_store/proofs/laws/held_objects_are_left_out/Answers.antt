use Rattle.fluid_store.proofs.LeftOut.{left_out}
use Rattle.fluid_store.proofs.laws.held_objects_are_left_out.Goals as goal

pub returns : goal.returns
returns c = left_out
