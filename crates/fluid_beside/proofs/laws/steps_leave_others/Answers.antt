use Rattle.fluid_beside.proofs.Leaving.{steps_leave, steps_keep}
use Rattle.fluid_beside.proofs.laws.steps_leave_others.Goals as goal

pub returns : goal.returns
returns c = record { others = steps_leave; store = steps_keep }
