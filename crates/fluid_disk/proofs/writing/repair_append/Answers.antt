use Rattle.std.proofs.Common.{inl, sym, ◌∙◌}
use Rattle.std.proofs.lemmas.Result.{err_from_is_err_and}
use Rattle.fluid_disk.specs.declared.owed.Owed.TheVariants as debts
use Rattle.fluid_disk.specs.Records.{IsAtRest}
use Rattle.fluid_disk.specs.Files.{appending, Keeps, Appending}
use Rattle.fluid_disk.proofs.Moments.{chained, weaker}
use Rattle.fluid_disk.proofs.Runs.{quiet_run}
use Rattle.fluid_disk.proofs.Standing.{told_before}
use Rattle.fluid_disk.proofs.Mending.{quieter, reads_run}
use Rattle.fluid_disk.proofs.writing.repair_append.Goals as goal

pub close-requires-clause-stands : goal.close-requires-clause-stands
close-requires-clause-stands g c =
    let s = c.requires in
    (s.0, s.1, quieter g.D.Disk.seen g.D.Disk.may_leave g.D.Disk.moment g.D.Disk.left_since (appending s.0 s.1) c.args.disk.now c.sync.new.self c.args.gates.now debts.Append c.sync.ensures.same c.sync.ensures.crash s.2)

pub trim-requires : goal.trim-requires
trim-requires g c =
    let s = c.requires in
    (s.0, c.in_ok-close.ensures.does s.0 s.1 (quieter g.D.Disk.seen g.D.Disk.may_leave g.D.Disk.moment g.D.Disk.left_since (appending s.0 s.1) c.args.disk.now c.sync.new.self c.args.gates.now debts.Append c.sync.ensures.same c.sync.ensures.crash s.2))

pub returns-in_err-sync-clause-does : goal.returns-in_err-sync-clause-does
returns-in_err-sync-clause-does g c records bytes s =
    let e = err_from_is_err_and c.from_residual.result c.from_residual.ensures.1 in
    rw (e.1) (quieter g.D.Disk.seen g.D.Disk.may_leave g.D.Disk.moment g.D.Disk.left_since (appending records bytes) c.args.disk.now c.sync.new.self c.args.gates.now debts.Append c.sync.ensures.same c.sync.ensures.crash s)

pub returns-in_err-sync-clause-crash : goal.returns-in_err-sync-clause-crash
returns-in_err-sync-clause-crash g c records bytes held s told =
    reads_run g.D.Disk.seen g.D.Disk.may_leave g.D.Disk.moment g.D.Disk.left_since (appending records bytes) c.args.disk.now c.sync.new.self c.args.gates.now debts.Append held told s
    (quiet_run g.D.Disk.may_leave g.D.Disk.moment g.D.Disk.left_since c.args.disk.now c.sync.new.self (g.met.D.Disk.only_now c.args.disk.now) c.sync.ensures.crash c.sync.ensures.time)

pub returns-in_err-close-clause-does : goal.returns-in_err-close-clause-does
returns-in_err-close-clause-does g c records bytes s =
    let e = err_from_is_err_and c.from_residual-in_err-close.result c.from_residual-in_err-close.ensures.1 in
    let mid = quieter g.D.Disk.seen g.D.Disk.may_leave g.D.Disk.moment g.D.Disk.left_since (appending records bytes) c.args.disk.now c.sync.new.self c.args.gates.now debts.Append c.sync.ensures.same c.sync.ensures.crash s in
    rw (e.1) (c.in_err-close.ensures.does records bytes mid)

pub returns-in_err-close-clause-crash : goal.returns-in_err-close-clause-crash
returns-in_err-close-clause-crash g c records bytes held s told =
    let one = reads_run g.D.Disk.seen g.D.Disk.may_leave g.D.Disk.moment g.D.Disk.left_since (appending records bytes) c.args.disk.now c.sync.new.self c.args.gates.now debts.Append held told s
    (quiet_run g.D.Disk.may_leave g.D.Disk.moment g.D.Disk.left_since c.args.disk.now c.sync.new.self (g.met.D.Disk.only_now c.args.disk.now) c.sync.ensures.crash c.sync.ensures.time) in
    let mid = quieter g.D.Disk.seen g.D.Disk.may_leave g.D.Disk.moment g.D.Disk.left_since (appending records bytes) c.args.disk.now c.sync.new.self c.args.gates.now debts.Append c.sync.ensures.same c.sync.ensures.crash s in
    chained g.D.Disk.moment g.D.Disk.left_since c.args.disk.now c.sync.new.self c.close.new.disk (Keeps records (Appending bytes)) one (c.close.ensures.crash records bytes held mid (c.sync.ensures.same.bytes ∙ told))

pub returns-in_err-trim-clause-does : goal.returns-in_err-trim-clause-does
returns-in_err-trim-clause-does g c records bytes s =
    let e = err_from_is_err_and c.from_residual-in_err-trim.result c.from_residual-in_err-trim.ensures.1 in
    let mid = quieter g.D.Disk.seen g.D.Disk.may_leave g.D.Disk.moment g.D.Disk.left_since (appending records bytes) c.args.disk.now c.sync.new.self c.args.gates.now debts.Append c.sync.ensures.same c.sync.ensures.crash s in
    rw (e.1) (c.in_err-trim.ensures.does records (c.in_ok-close.ensures.does records bytes mid) bytes s.fits)

pub returns-in_err-trim-clause-crash : goal.returns-in_err-trim-clause-crash
returns-in_err-trim-clause-crash g c records bytes held s told =
    let one = reads_run g.D.Disk.seen g.D.Disk.may_leave g.D.Disk.moment g.D.Disk.left_since (appending records bytes) c.args.disk.now c.sync.new.self c.args.gates.now debts.Append held told s
    (quiet_run g.D.Disk.may_leave g.D.Disk.moment g.D.Disk.left_since c.args.disk.now c.sync.new.self (g.met.D.Disk.only_now c.args.disk.now) c.sync.ensures.crash c.sync.ensures.time) in
    let mid = quieter g.D.Disk.seen g.D.Disk.may_leave g.D.Disk.moment g.D.Disk.left_since (appending records bytes) c.args.disk.now c.sync.new.self c.args.gates.now debts.Append c.sync.ensures.same c.sync.ensures.crash s in
    let mid_told = c.sync.ensures.same.bytes ∙ told in
    let two = chained g.D.Disk.moment g.D.Disk.left_since c.args.disk.now c.sync.new.self c.close.new.disk (Keeps records (Appending bytes)) one (c.close.ensures.crash records bytes held mid mid_told) in
    let rest = c.in_ok-close.ensures.does records bytes mid in
    let then = told_before (g.D.Disk.seen c.close.new.disk).bytes (g.D.Disk.seen c.sync.new.self).bytes held (sym c.close.ensures.told) mid_told in
    chained g.D.Disk.moment g.D.Disk.left_since c.args.disk.now c.close.new.disk c.trim.new.disk (Keeps records (Appending bytes)) two
    (weaker g.D.Disk.moment g.D.Disk.left_since c.close.new.disk c.trim.new.disk (IsAtRest records) (Keeps records (Appending bytes)) (λ image rests. inl rests) (c.trim.ensures.crash records then.0 rest then.1))

pub returns-clause-does : goal.returns-clause-does
returns-clause-does g c records bytes s =
    let mid = quieter g.D.Disk.seen g.D.Disk.may_leave g.D.Disk.moment g.D.Disk.left_since (appending records bytes) c.args.disk.now c.sync.new.self c.args.gates.now debts.Append c.sync.ensures.same c.sync.ensures.crash s in
    c.in_ok-trim.ensures.does records (c.in_ok-close.ensures.does records bytes mid)

pub returns-clause-crash : goal.returns-clause-crash
returns-clause-crash g c records bytes held s told =
    let one = reads_run g.D.Disk.seen g.D.Disk.may_leave g.D.Disk.moment g.D.Disk.left_since (appending records bytes) c.args.disk.now c.sync.new.self c.args.gates.now debts.Append held told s
    (quiet_run g.D.Disk.may_leave g.D.Disk.moment g.D.Disk.left_since c.args.disk.now c.sync.new.self (g.met.D.Disk.only_now c.args.disk.now) c.sync.ensures.crash c.sync.ensures.time) in
    let mid = quieter g.D.Disk.seen g.D.Disk.may_leave g.D.Disk.moment g.D.Disk.left_since (appending records bytes) c.args.disk.now c.sync.new.self c.args.gates.now debts.Append c.sync.ensures.same c.sync.ensures.crash s in
    let mid_told = c.sync.ensures.same.bytes ∙ told in
    let two = chained g.D.Disk.moment g.D.Disk.left_since c.args.disk.now c.sync.new.self c.close.new.disk (Keeps records (Appending bytes)) one (c.close.ensures.crash records bytes held mid mid_told) in
    let rest = c.in_ok-close.ensures.does records bytes mid in
    let then = told_before (g.D.Disk.seen c.close.new.disk).bytes (g.D.Disk.seen c.sync.new.self).bytes held (sym c.close.ensures.told) mid_told in
    chained g.D.Disk.moment g.D.Disk.left_since c.args.disk.now c.close.new.disk c.trim.new.disk (Keeps records (Appending bytes)) two
    (weaker g.D.Disk.moment g.D.Disk.left_since c.close.new.disk c.trim.new.disk (IsAtRest records) (Keeps records (Appending bytes)) (λ image rests. inl rests) (c.trim.ensures.crash records then.0 rest then.1))
