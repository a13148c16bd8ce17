use Rattle.fluid_lane.proofs.Says.{opening_leaves}
use Rattle.fluid_lane.proofs.laws.openings_leave.Goals as goal

pub returns : goal.returns
returns c = opening_leaves
