use Rattle.std.proofs.Common.{◌∙◌}
use Rattle.fluid_disk_keeper.proofs.Contents.{closed_row}
use Rattle.fluid_disk_keeper.proofs.keeper.DiskKeeper.close.Goals as goal

pub returns-clause-crash_log : goal.returns-clause-crash_log
returns-clause-crash_log g c = rw (← c.self.view_is) (closed_row g.D.Disk.seen g.D.Disk.may_leave c.self.inside.log _ (c.of.ensures.0 ∙ c.close.ensures) c.known.ensures.crash)

pub returns-clause-crash_deltas : goal.returns-clause-crash_deltas
returns-clause-crash_deltas g c = rw (← c.self.view_is) (closed_row g.D.Disk.seen g.D.Disk.may_leave c.self.inside.deltas _ (c.of.ensures.1.0 ∙ c.close-2.ensures) c.known-2.ensures.crash)

pub returns-clause-crash_checkpoints : goal.returns-clause-crash_checkpoints
returns-clause-crash_checkpoints g c =
    rw (← c.self.view_is) (closed_row g.D.Disk.seen g.D.Disk.may_leave c.self.inside.checkpoints _ (c.of.ensures.1.1 ∙ c.close-3.ensures) c.known-3.ensures.crash)
