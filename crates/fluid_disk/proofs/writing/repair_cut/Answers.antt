use Rattle.std.proofs.Common.{[], ◌∷◌, ℕ, length, ap, subst, arith, ◌∙◌}
use Rattle.std.proofs.lemmas.Result.{err_from_is_err_and}
use Rattle.fluid_disk.specs.declared.owed.Owed.TheVariants as debts
use Rattle.fluid_disk.specs.Disk.{Torn, LeavesOnly, Overwrites}
use Rattle.fluid_disk.specs.Files.{cutting, Keeps, Cutting}
use Rattle.fluid_disk.proofs.Moments.{chained}
use Rattle.fluid_disk.proofs.Runs.{quiet_run}
use Rattle.fluid_disk.proofs.Mending.{quieter, reads_run, reads_kept, alone, reopen_failed, reopen_run, reopened_whole, prefix_shorter}
use Rattle.fluid_disk.proofs.Rows.{length_gates}
use Rattle.fluid_disk.proofs.writing.repair_cut.Goals as goal

pub gate_of-gate-requires : goal.gate_of-gate-requires
gate_of-gate-requires g c = let s = c.requires in omega (arith, ap length s.1.gates_are, length_gates 0 s.0, s.1.fits)

pub put-requires : goal.put-requires
put-requires g c = let s = c.requires in omega (arith, c.gate_of-gate.ensures s.0 s.1.gates_are, s.1.room, prefix_shorter c.args.count s.0, c.sync.ensures.same.size)

pub returns-in_err-sync-clause-does : goal.returns-in_err-sync-clause-does
returns-in_err-sync-clause-does g c records s =
    let e = err_from_is_err_and c.from_residual.result c.from_residual.ensures.1 in
    rw (e.1) (quieter g.D.Disk.seen g.D.Disk.may_leave g.D.Disk.moment g.D.Disk.left_since (cutting records c.args.count) c.args.disk.now c.sync.new.self c.args.gates.now (debts.Cut c.args.count) c.sync.ensures.same c.sync.ensures.crash s)

pub returns-in_err-sync-clause-crash : goal.returns-in_err-sync-clause-crash
returns-in_err-sync-clause-crash g c records held s told =
    reads_run g.D.Disk.seen g.D.Disk.may_leave g.D.Disk.moment g.D.Disk.left_since (cutting records c.args.count) c.args.disk.now c.sync.new.self c.args.gates.now (debts.Cut c.args.count) held told s
    (quiet_run g.D.Disk.may_leave g.D.Disk.moment g.D.Disk.left_since c.args.disk.now c.sync.new.self (g.met.D.Disk.only_now c.args.disk.now) c.sync.ensures.crash c.sync.ensures.time)

pub returns-in_err-put-clause-does : goal.returns-in_err-put-clause-does
returns-in_err-put-clause-does g c records s =
    let e = err_from_is_err_and c.from_residual-in_err-put.result c.from_residual-in_err-put.ensures.1 in
    let gate = c.gate_of-gate.ensures records s.gates_are in
    let mid = quieter g.D.Disk.seen g.D.Disk.may_leave g.D.Disk.moment g.D.Disk.left_since (cutting records c.args.count) c.args.disk.now c.sync.new.self c.args.gates.now (debts.Cut c.args.count) c.sync.ensures.same c.sync.ensures.crash s in
    rw (e.1) (reopen_failed g.D.Disk.seen g.D.Disk.may_leave g.D.Disk.moment g.D.Disk.left_since records c.args.count c.sync.new.self c.put.new.disk c.args.gates.now mid (g.met.D.Disk.leaves_read c.sync.new.self) (g.met.D.Disk.counts_now c.put.new.disk)
    c.in_err-put.ensures.does c.in_ok-sync.ensures.durable
    (λ held told alone. subst (λ (n : ℕ). LeavesOnly g.D.Disk.moment g.D.Disk.left_since c.sync.new.self c.put.new.disk (Torn n 1 held)) gate (c.put.ensures.crash held told alone)))

pub returns-in_err-put-clause-crash : goal.returns-in_err-put-clause-crash
returns-in_err-put-clause-crash g c records held s told =
    let gate = c.gate_of-gate.ensures records s.gates_are in
    let one = reads_run g.D.Disk.seen g.D.Disk.may_leave g.D.Disk.moment g.D.Disk.left_since (cutting records c.args.count) c.args.disk.now c.sync.new.self c.args.gates.now (debts.Cut c.args.count) held told s
    (quiet_run g.D.Disk.may_leave g.D.Disk.moment g.D.Disk.left_since c.args.disk.now c.sync.new.self (g.met.D.Disk.only_now c.args.disk.now) c.sync.ensures.crash c.sync.ensures.time) in
    let mid = quieter g.D.Disk.seen g.D.Disk.may_leave g.D.Disk.moment g.D.Disk.left_since (cutting records c.args.count) c.args.disk.now c.sync.new.self c.args.gates.now (debts.Cut c.args.count) c.sync.ensures.same c.sync.ensures.crash s in
    let mid_told = c.sync.ensures.same.bytes ∙ told in
    let but = reads_kept g.D.Disk.seen g.D.Disk.may_leave g.D.Disk.moment g.D.Disk.left_since (cutting records c.args.count) c.sync.new.self c.args.gates.now (debts.Cut c.args.count) held mid_told (g.met.D.Disk.leaves_read c.sync.new.self) mid in
    chained g.D.Disk.moment g.D.Disk.left_since c.args.disk.now c.sync.new.self c.put.new.disk (Keeps records (Cutting c.args.count)) one
    (reopen_run g.D.Disk.seen g.D.Disk.may_leave g.D.Disk.moment g.D.Disk.left_since records c.args.count held c.sync.new.self c.put.new.disk but
    (subst (λ (n : ℕ). LeavesOnly g.D.Disk.moment g.D.Disk.left_since c.sync.new.self c.put.new.disk (Torn n 1 held)) gate (c.put.ensures.crash held mid_told (alone g.D.Disk.seen g.D.Disk.may_leave g.D.Disk.moment g.D.Disk.left_since c.sync.new.self held mid_told c.in_ok-sync.ensures.durable))))

pub returns-clause-does : goal.returns-clause-does
returns-clause-does g c records s =
    let gate = c.gate_of-gate.ensures records s.gates_are in
    let mid = quieter g.D.Disk.seen g.D.Disk.may_leave g.D.Disk.moment g.D.Disk.left_since (cutting records c.args.count) c.args.disk.now c.sync.new.self c.args.gates.now (debts.Cut c.args.count) c.sync.ensures.same c.sync.ensures.crash s in
    reopened_whole g.D.Disk.seen g.D.Disk.may_leave g.D.Disk.moment g.D.Disk.left_since records c.args.count c.sync.new.self c.put.new.disk c.args.gates.now mid (g.met.D.Disk.leaves_read c.sync.new.self) (omega (arith, c.in_ok-put.ensures.does.size))
    (subst (λ (n : ℕ). Overwrites n (1 ∷ []) (g.D.Disk.seen c.sync.new.self) (g.D.Disk.seen c.put.new.disk)) gate c.in_ok-put.ensures.does) c.in_ok-put.ensures.durable

pub returns-clause-crash : goal.returns-clause-crash
returns-clause-crash g c records held s told =
    let gate = c.gate_of-gate.ensures records s.gates_are in
    let one = reads_run g.D.Disk.seen g.D.Disk.may_leave g.D.Disk.moment g.D.Disk.left_since (cutting records c.args.count) c.args.disk.now c.sync.new.self c.args.gates.now (debts.Cut c.args.count) held told s
    (quiet_run g.D.Disk.may_leave g.D.Disk.moment g.D.Disk.left_since c.args.disk.now c.sync.new.self (g.met.D.Disk.only_now c.args.disk.now) c.sync.ensures.crash c.sync.ensures.time) in
    let mid = quieter g.D.Disk.seen g.D.Disk.may_leave g.D.Disk.moment g.D.Disk.left_since (cutting records c.args.count) c.args.disk.now c.sync.new.self c.args.gates.now (debts.Cut c.args.count) c.sync.ensures.same c.sync.ensures.crash s in
    let mid_told = c.sync.ensures.same.bytes ∙ told in
    let but = reads_kept g.D.Disk.seen g.D.Disk.may_leave g.D.Disk.moment g.D.Disk.left_since (cutting records c.args.count) c.sync.new.self c.args.gates.now (debts.Cut c.args.count) held mid_told (g.met.D.Disk.leaves_read c.sync.new.self) mid in
    chained g.D.Disk.moment g.D.Disk.left_since c.args.disk.now c.sync.new.self c.put.new.disk (Keeps records (Cutting c.args.count)) one
    (reopen_run g.D.Disk.seen g.D.Disk.may_leave g.D.Disk.moment g.D.Disk.left_since records c.args.count held c.sync.new.self c.put.new.disk but
    (subst (λ (n : ℕ). LeavesOnly g.D.Disk.moment g.D.Disk.left_since c.sync.new.self c.put.new.disk (Torn n 1 held)) gate (c.put.ensures.crash held mid_told (alone g.D.Disk.seen g.D.Disk.may_leave g.D.Disk.moment g.D.Disk.left_since c.sync.new.self held mid_told c.in_ok-sync.ensures.durable))))
