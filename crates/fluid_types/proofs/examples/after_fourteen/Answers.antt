use Rattle.fluid_types.proofs.Quorums.{after_fourteen}
use Rattle.fluid_types.proofs.examples.after_fourteen.Goals as goal

pub returns : goal.returns
returns c = after_fourteen
