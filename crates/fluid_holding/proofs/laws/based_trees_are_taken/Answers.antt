use Rattle.fluid_holding.proofs.Taken.{based_trees_are_taken as proved}
use Rattle.fluid_holding.proofs.laws.based_trees_are_taken.Goals as goal

pub returns : goal.returns
returns c = proved c.unmarked_apps_give_no_handle.ensures.whole
