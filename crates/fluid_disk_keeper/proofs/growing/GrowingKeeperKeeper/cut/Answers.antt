use Rattle.std.proofs.Common.{◌≡◌, ◌≤◌, length, ap, sym, subst, ◌∙◌, arith}
use Rattle.fluid_disk.specs.Files.{Recording, OpensCutting}
use Rattle.fluid_disk_keeper.specs.Keepers.{DiskKeeping}
use Rattle.fluid_disk_keeper.specs.Growing.{OwesNoCut}
use Rattle.fluid_disk_keeper.proofs.Contents.{count_is}
use Rattle.fluid_disk_keeper.proofs.Whole.{cut_uncut, crash_left, quiet_left, whole_cutting}
use Rattle.fluid_disk_keeper.proofs.growing.GrowingKeeperKeeper.cut.Goals as goal

pub invariant_of-self : goal.invariant_of-self
invariant_of-self g c = subst (λ (k : DiskKeeping g.row.D.Denot). OwesNoCut g.D.Disk.seen g.D.Disk.may_leave k.log) (sym c.count_fault.ensures.counted) c.self.invariant

pub returns-then-count-len-clause-cause : goal.returns-then-count-len-clause-cause
returns-then-count-len-clause-cause g c = rw (← c.self.view_is) (record { later = c.count_fault.ensures.later; failed = c.count_fault.ensures.rose })

pub returns-then-count-len-clause-crash : goal.returns-then-count-len-clause-crash
returns-then-count-len-clause-crash g c =
    let w = c.self.invariant in
    rw (← c.self.view_is)
    (quiet_left g.D.Disk.seen g.D.Disk.may_leave g.D.Disk.moment g.D.Disk.left_since c.self.inside.keeper c.count_fault.new.self.log.disk w.0
    (ap (λ (k : DiskKeeping g.row.D.Denot). k.log.disk) c.count_fault.ensures.counted) w.1 w.2 (g.met.D.Disk.leaves_read c.self.inside.keeper.log.disk)
    c.count_fault.ensures.crash (g.met.D.Disk.only_now c.self.inside.keeper.log.disk))

pub invariant_of-self-2 : goal.invariant_of-self-2
invariant_of-self-2 g c =
    let w = c.self.invariant in
    let long : length w.0.records ≤ c.args.count = omega (arith, c.if-count-len.false, c.len.ensures, count_is g.D.Disk.seen g.D.Disk.may_leave w.0 c.self.inside.keeper.log w.1) in
    cut_uncut g.D.Disk.seen g.D.Disk.may_leave w.0 c.args.count c.cut.new.self.log c.cut.result w.2 long (c.cut.ensures.file.does w.0 w.1)

pub returns-clause-crash : goal.returns-clause-crash
returns-clause-crash g c =
    let w = c.self.invariant in
    let long : length w.0.records ≤ c.args.count = omega (arith, c.if-count-len.false, c.len.ensures, count_is g.D.Disk.seen g.D.Disk.may_leave w.0 c.self.inside.keeper.log w.1) in
    rw (← c.self.view_is)
    (crash_left g.D.Disk.seen g.D.Disk.may_leave g.D.Disk.moment g.D.Disk.left_since c.self.inside.keeper c.cut.new.self.log.disk w.0 (OpensCutting w.0 c.args.count) w.1
    (g.met.D.Disk.leaves_read c.self.inside.keeper.log.disk) (c.cut.ensures.file.crash w.0 w.1) (λ image opens. whole_cutting w.0 c.args.count image w.2 long opens))
