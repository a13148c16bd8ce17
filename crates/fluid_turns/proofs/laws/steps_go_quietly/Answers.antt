use Rattle.fluid_turns.proofs.Quiet.{steps_go_quietly}
use Rattle.fluid_turns.proofs.laws.steps_go_quietly.Goals as goal

pub returns : goal.returns
returns c = steps_go_quietly
