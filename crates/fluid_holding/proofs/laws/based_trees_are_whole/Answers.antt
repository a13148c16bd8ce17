use Rattle.fluid_holding.proofs.Whole.{based_trees_are_whole as proved}
use Rattle.fluid_holding.proofs.laws.based_trees_are_whole.Goals as goal

pub returns : goal.returns
returns c = proved c.unmarked_apps_give_no_handle.ensures.whole c.what_is_fetched_stands.ensures c.held_objects_are_left_out.ensures
