use Rattle.std.proofs.Common.{length, ◌∙◌, ap}
use Rattle.std.specs.Prelude.{is_some}
use Rattle.fluid_disk.specs.Disk.{Torn, overwritten}
use Rattle.fluid_disk.proofs.Runs.{step_run, step_synced}
use Rattle.fluid_disk.proofs.Standing.{mapped}
use Rattle.fluid_disk.proofs.Tears.{torn_same}
use Rattle.fluid_disk.proofs.writing.put.Goals as goal

pub returns-in_err-write_at-clause-crash : goal.returns-in_err-write_at-clause-crash
returns-in_err-write_at-clause-crash g c held is only =
    step_run g.D.Disk.may_leave g.D.Disk.moment g.D.Disk.left_since c.args.disk.now c.write_at.new.self (Torn c.args.at (length c.args.bytes.now)) held
    (g.met.D.Disk.only_now c.args.disk.now) (torn_same c.args.at (length c.args.bytes.now) held) only c.write_at.ensures.crash c.write_at.ensures.time

pub returns-in_err-sync-clause-crash : goal.returns-in_err-sync-clause-crash
returns-in_err-sync-clause-crash g c held is only =
    step_synced g.D.Disk.may_leave g.D.Disk.moment g.D.Disk.left_since c.args.disk.now c.write_at.new.self c.sync.new.self (Torn c.args.at (length c.args.bytes.now)) held
    (g.met.D.Disk.only_now c.args.disk.now) (torn_same c.args.at (length c.args.bytes.now) held) only c.write_at.ensures.crash c.write_at.ensures.time c.sync.ensures.crash c.sync.ensures.time

pub returns-clause-crash : goal.returns-clause-crash
returns-clause-crash g c held is only =
    step_synced g.D.Disk.may_leave g.D.Disk.moment g.D.Disk.left_since c.args.disk.now c.write_at.new.self c.sync.new.self (Torn c.args.at (length c.args.bytes.now)) held
    (g.met.D.Disk.only_now c.args.disk.now) (torn_same c.args.at (length c.args.bytes.now) held) only c.write_at.ensures.crash c.write_at.ensures.time c.sync.ensures.crash c.sync.ensures.time

pub returns-in_err-write_at-clause-told : goal.returns-in_err-write_at-clause-told
returns-in_err-write_at-clause-told g c = c.in_err-write_at.ensures.does.told

pub returns-in_err-sync-clause-told : goal.returns-in_err-sync-clause-told
returns-in_err-sync-clause-told g c =
    ap is_some c.sync.ensures.same.bytes ∙ mapped (overwritten c.args.at c.args.bytes.now) _ _ c.in_ok-write_at.ensures.does.bytes

pub returns-clause-told : goal.returns-clause-told
returns-clause-told g c = ap is_some c.sync.ensures.same.bytes ∙ mapped (overwritten c.args.at c.args.bytes.now) _ _ c.in_ok-write_at.ensures.does.bytes
