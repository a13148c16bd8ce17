use Rattle.std.proofs.Common.{◌-◌}
use Rattle.fluid_disk.proofs.Walks.{IsWalkingOn}
use Rattle.fluid_disk.proofs.opening.walk.Given as goal

abbrev pub invariant-loop-ahead : goal.invariant-loop-ahead
invariant-loop-ahead g l =
    IsWalkingOn g.D.Disk.seen g.D.Disk.may_leave g.D.Disk.moment g.D.Disk.left_since l.initial.disk l.disk l.gates.items l.place l.ahead.start l.ahead.bytes.items

abbrev pub decreases-loop-ahead : goal.decreases-loop-ahead
decreases-loop-ahead g l = l.size - l.place
