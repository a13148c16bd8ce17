use Rattle.fluid_tree.proofs.Complete.{object_read_back}
use Rattle.fluid_tree.proofs.laws.objects_are_read_back.Goals as goal

pub returns : goal.returns
returns c o whole = object_read_back o whole
