use Rattle.fluid_tasks.proofs.Computed.{in_turn}
use Rattle.fluid_tasks.proofs.examples.in_turn.Goals as goal

pub returns : goal.returns
returns c = in_turn
