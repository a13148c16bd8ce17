use Rattle.fluid_session.proofs.Wholly.{concluded}
use Rattle.fluid_session.proofs.laws.cycles_are_sessions.Goals as goal

pub returns : goal.returns
returns c = concluded
