use Rattle.fluid_tree.proofs.Digits.{id_read_back}
use Rattle.fluid_tree.proofs.laws.ids_are_read_back.Goals as goal

pub returns : goal.returns
returns c i size bytes = id_read_back i size bytes
