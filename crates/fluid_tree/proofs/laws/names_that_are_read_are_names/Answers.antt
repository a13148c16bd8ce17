use Rattle.fluid_tree.proofs.Named.{names_read}
use Rattle.fluid_tree.proofs.laws.names_that_are_read_are_names.Goals as goal

pub returns : goal.returns
returns c s entries h = names_read s entries h
