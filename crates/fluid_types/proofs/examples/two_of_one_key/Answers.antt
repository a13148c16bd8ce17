use Rattle.fluid_types.proofs.Quorums.{two_of_one_key}
use Rattle.fluid_types.proofs.examples.two_of_one_key.Goals as goal

pub returns : goal.returns
returns c = two_of_one_key
