use Rattle.fluid_quorum.proofs.Read.{attributes_said}
use Rattle.fluid_quorum.proofs.laws.attributes_are_read.Goals as goal

pub returns : goal.returns
returns c = attributes_said
