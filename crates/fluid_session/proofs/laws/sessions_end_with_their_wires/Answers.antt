use Rattle.fluid_session.proofs.Completed.{ends_with_its_wire}
use Rattle.fluid_session.proofs.laws.sessions_end_with_their_wires.Goals as goal

pub returns : goal.returns
returns c = ends_with_its_wire
