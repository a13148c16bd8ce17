use Rattle.fluid_lane.proofs.Ids.{AreSameUpTo}
use Rattle.fluid_lane.proofs.lane.have_same_ids.Given as goal

abbrev pub invariant-loop-place : goal.invariant-loop-place
invariant-loop-place l = AreSameUpTo l.fn.one.rows l.fn.other.rows l.place
