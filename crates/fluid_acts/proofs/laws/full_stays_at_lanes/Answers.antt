use Rattle.fluid_acts.proofs.Following.{full_stays_at_lane}
use Rattle.fluid_acts.proofs.laws.full_stays_at_lanes.Goals as goal

pub returns : goal.returns
returns c = full_stays_at_lane
