use Rattle.fluid_turns.proofs.Leaving.{submissions_leave_all}
use Rattle.fluid_turns.proofs.laws.submissions_leave_all.Goals as goal

pub returns : goal.returns
returns c = submissions_leave_all
