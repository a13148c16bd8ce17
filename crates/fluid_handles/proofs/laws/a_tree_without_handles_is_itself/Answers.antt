use Rattle.fluid_handles.proofs.Whole.{itself}
use Rattle.fluid_handles.proofs.laws.a_tree_without_handles_is_itself.Goals as goal

pub returns : goal.returns
returns c = itself
