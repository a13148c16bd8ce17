use Rattle.fluid_types.proofs.Quorums.{who_is_in}
use Rattle.fluid_types.proofs.examples.who_is_in.Goals as goal

pub returns : goal.returns
returns c = who_is_in
