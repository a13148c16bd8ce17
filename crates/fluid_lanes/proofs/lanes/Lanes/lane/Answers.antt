use Rattle.fluid_lanes.proofs.Openings.{is_used}
use Rattle.fluid_lanes.proofs.lanes.Lanes.lane.Goals as goal

pub lent-requires : goal.lent-requires
lent-requires g c = is_used c.args.name.now c.args.moment c.args.self.now c.open.new.self c.in_ok-open.ensures.does
