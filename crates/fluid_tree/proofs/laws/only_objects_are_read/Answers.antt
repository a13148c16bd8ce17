use Rattle.fluid_tree.proofs.Sound.{object_is}
use Rattle.fluid_tree.proofs.laws.only_objects_are_read.Goals as goal

pub returns : goal.returns
returns c s o h = object_is s o h
