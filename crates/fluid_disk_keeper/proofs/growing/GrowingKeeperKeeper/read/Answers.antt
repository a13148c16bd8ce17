use Rattle.fluid_disk.specs.Files.{Opens}
use Rattle.fluid_disk_keeper.proofs.Whole.{crash_left, whole}
use Rattle.fluid_disk_keeper.proofs.growing.GrowingKeeperKeeper.read.Goals as goal

pub invariant_of-self : goal.invariant_of-self
invariant_of-self g c = let w = c.self.invariant in (w.0, c.read.ensures.file.same w.0 w.1, w.2)

pub returns-clause-crash : goal.returns-clause-crash
returns-clause-crash g c =
    let w = c.self.invariant in
    rw (← c.self.view_is)
    (crash_left g.D.Disk.seen g.D.Disk.may_leave g.D.Disk.moment g.D.Disk.left_since c.self.inside.keeper c.read.new.self.log.disk w.0 (Opens w.0) w.1 (g.met.D.Disk.leaves_read c.self.inside.keeper.log.disk)
    (c.read.ensures.file.crash w.0 w.1) (λ image opens. whole w.0 image w.2 opens))
