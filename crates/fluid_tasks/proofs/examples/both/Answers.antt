use Rattle.fluid_tasks.proofs.Computed.{both_so}
use Rattle.fluid_tasks.proofs.examples.both.Goals as goal

pub returns : goal.returns
returns c = both_so
