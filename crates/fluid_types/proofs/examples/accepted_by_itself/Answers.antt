use Rattle.fluid_types.proofs.Quorums.{accepted_by_itself}
use Rattle.fluid_types.proofs.examples.accepted_by_itself.Goals as goal

pub returns : goal.returns
returns c = accepted_by_itself
