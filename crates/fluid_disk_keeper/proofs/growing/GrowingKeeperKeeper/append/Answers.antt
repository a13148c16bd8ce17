use Rattle.fluid_disk.specs.Files.{OpensAppending}
use Rattle.fluid_disk_keeper.proofs.Whole.{append_uncut, crash_left, whole_appending}
use Rattle.fluid_disk_keeper.proofs.growing.GrowingKeeperKeeper.append.Goals as goal

pub invariant_of-self : goal.invariant_of-self
invariant_of-self g c =
    let w = c.self.invariant in
    append_uncut g.D.Disk.seen g.D.Disk.may_leave w.0 c.args.bytes.now c.append.new.self.log c.append.result w.2 (c.append.ensures.file.does w.0 w.1)

pub returns-clause-crash : goal.returns-clause-crash
returns-clause-crash g c =
    let w = c.self.invariant in
    rw (← c.self.view_is)
    (crash_left g.D.Disk.seen g.D.Disk.may_leave g.D.Disk.moment g.D.Disk.left_since c.self.inside.keeper c.append.new.self.log.disk w.0 (OpensAppending w.0 c.args.bytes.now) w.1
    (g.met.D.Disk.leaves_read c.self.inside.keeper.log.disk) (c.append.ensures.file.crash w.0 w.1) (λ image opens. whole_appending w.0 c.args.bytes.now image w.2 opens))
