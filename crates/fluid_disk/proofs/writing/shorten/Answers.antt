use Rattle.std.proofs.Common.{inl, refl}
use Rattle.fluid_disk.specs.Disk.{Cut}
use Rattle.fluid_disk.proofs.Runs.{step_run, step_synced}
use Rattle.fluid_disk.proofs.writing.shorten.Goals as goal

pub returns-in_err-cut-clause-crash : goal.returns-in_err-cut-clause-crash
returns-in_err-cut-clause-crash g c held is only =
    step_run g.D.Disk.may_leave g.D.Disk.moment g.D.Disk.left_since c.args.disk.now c.cut.new.self (Cut c.args.to) held
    (g.met.D.Disk.only_now c.args.disk.now) (inl refl) only c.cut.ensures.crash c.cut.ensures.time

pub returns-clause-crash : goal.returns-clause-crash
returns-clause-crash g c held is only =
    step_synced g.D.Disk.may_leave g.D.Disk.moment g.D.Disk.left_since c.args.disk.now c.cut.new.self c.sync.new.self (Cut c.args.to) held
    (g.met.D.Disk.only_now c.args.disk.now) (inl refl) only c.cut.ensures.crash c.cut.ensures.time c.sync.ensures.crash c.sync.ensures.time
