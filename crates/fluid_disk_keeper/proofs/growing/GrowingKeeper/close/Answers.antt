use Rattle.fluid_disk_keeper.proofs.Whole.{left_now}
use Rattle.fluid_disk_keeper.proofs.growing.GrowingKeeper.close.Goals as goal

pub returns-clause-crash : goal.returns-clause-crash
returns-clause-crash g c =
    let w = c.self.invariant in
    rw (← c.self.view_is)
    (left_now g.D.Disk.seen g.D.Disk.may_leave c.self.inside.keeper c.close.result.log w.0 c.close.ensures.log w.1 w.2 (g.met.D.Disk.leaves_read c.self.inside.keeper.log.disk) (c.close.ensures.crash_log w.0 w.1))
