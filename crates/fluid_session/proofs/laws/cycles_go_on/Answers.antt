use Rattle.fluid_session.proofs.Onward.{runs_then}
use Rattle.fluid_session.proofs.laws.cycles_go_on.Goals as goal

pub returns : goal.returns
returns c = runs_then
