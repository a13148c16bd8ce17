use Rattle.fluid_loader.proofs.Based.{whole_upload}
use Rattle.fluid_loader.proofs.laws.uploads_are_whole.Goals as goal

pub returns : goal.returns
returns c = whole_upload c.a_tree_without_handles_is_itself.ensures c.unmarked_apps_give_no_handle.ensures.whole
