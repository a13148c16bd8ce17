use Rattle.std.proofs.Common.{◌-◌, length}
use Rattle.fluid_disk.proofs.Filling.{IsFilled}
use Rattle.fluid_disk.proofs.reading.fill.Given as goal

abbrev pub invariant-loop-done : goal.invariant-loop-done
invariant-loop-done g l =
    IsFilled g.D.Disk.seen g.D.Disk.may_leave g.D.Disk.moment g.D.Disk.left_since l.initial.disk l.disk l.at l.initial.into l.into l.done

abbrev pub decreases-loop-done : goal.decreases-loop-done
decreases-loop-done g l = length l.into - l.done
