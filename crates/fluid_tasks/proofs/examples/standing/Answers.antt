use Rattle.fluid_tasks.proofs.Computed.{standing_so}
use Rattle.fluid_tasks.proofs.examples.standing.Goals as goal

pub returns : goal.returns
returns c = standing_so
