use Rattle.fluid_tasks.proofs.Computed.{count_for_nothing}
use Rattle.fluid_tasks.proofs.examples.count_for_nothing.Goals as goal

pub returns : goal.returns
returns c = count_for_nothing
