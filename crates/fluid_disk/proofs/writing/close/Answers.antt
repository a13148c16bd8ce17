use Rattle.std.proofs.Common.{◌≡◌, [], ◌∷◌, ℕ, List, length, get_or, ap, sym, subst, ◌∙◌, arith}
use Rattle.std.specs.Prelude.{Some}
use Rattle.std.proofs.lemmas.Result.{err_from_is_err_and}
use Rattle.fluid_disk.specs.declared.owed.Owed.TheVariants as debts
use Rattle.fluid_disk.specs.Disk.{Torn, LeavesOnly, Overwrites}
use Rattle.fluid_disk.specs.Records.{IsAtRest}
use Rattle.fluid_disk.specs.Files.{appending, Keeps, Appending}
use Rattle.fluid_disk.proofs.Moments.{chained}
use Rattle.fluid_disk.proofs.Runs.{quiet_run}
use Rattle.fluid_disk.proofs.Resting.{IsStaged}
use Rattle.fluid_disk.proofs.Mending.{quieter, quiet_durable, reads_run, reads_kept, alone, open_staged, shut_rest, close_failed, close_run, closed, shut_settled}
use Rattle.fluid_disk.proofs.Rows.{length_gates}
use Rattle.fluid_disk.proofs.writing.close.Goals as goal

pub last_gate-gate-requires : goal.last_gate-gate-requires
last_gate-gate-requires g c = let s = c.requires.stands in omega (arith, ap length s.2.gates_are, length_gates 0 s.0)

pub byte_at-requires : goal.byte_at-requires
byte_at-requires g c = let s = c.requires.stands in omega (arith, c.last_gate-gate.ensures s.0 s.2.gates_are, s.2.room)

pub put-requires : goal.put-requires
put-requires g c = let s = c.requires.stands in omega (arith, c.last_gate-gate.ensures s.0 s.2.gates_are, s.2.room, c.byte_at.ensures.reads.same.size)

pub returns-in_err-value-clause-does : goal.returns-in_err-value-clause-does
returns-in_err-value-clause-does g c records bytes s =
    let e = err_from_is_err_and c.from_residual.result c.from_residual.ensures.1 in
    rw (e.1) (quieter g.D.Disk.seen g.D.Disk.may_leave g.D.Disk.moment g.D.Disk.left_since (appending records bytes) c.args.disk.now c.byte_at.new.disk c.args.gates.now debts.Append c.byte_at.ensures.reads.same c.byte_at.ensures.reads.fewer s)

pub returns-in_err-value-clause-crash : goal.returns-in_err-value-clause-crash
returns-in_err-value-clause-crash g c records bytes held s told = reads_run g.D.Disk.seen g.D.Disk.may_leave g.D.Disk.moment g.D.Disk.left_since (appending records bytes) c.args.disk.now c.byte_at.new.disk c.args.gates.now debts.Append held told s c.byte_at.ensures.reads.since

pub returns-in_err-put-clause-does : goal.returns-in_err-put-clause-does
returns-in_err-put-clause-does g c records bytes s =
    let e = err_from_is_err_and c.from_residual-in_err-put.result c.from_residual-in_err-put.ensures.1 in
    let mid = quieter g.D.Disk.seen g.D.Disk.may_leave g.D.Disk.moment g.D.Disk.left_since (appending records bytes) c.args.disk.now c.byte_at.new.disk c.args.gates.now debts.Append c.byte_at.ensures.reads.same c.byte_at.ensures.reads.fewer s in
    let gate = c.last_gate-gate.ensures records s.gates_are in
    let whole : (held : List ℕ) → (g.D.Disk.seen c.byte_at.new.disk).bytes ≡ Some held → IsStaged records bytes held = λ held told.
    open_staged records bytes held (reads_kept g.D.Disk.seen g.D.Disk.may_leave g.D.Disk.moment g.D.Disk.left_since (appending records bytes) c.byte_at.new.disk c.args.gates.now debts.Append held told (g.met.D.Disk.leaves_read c.byte_at.new.disk) mid)
    (ap (λ (n : ℕ). get_or held n 0) (sym gate) ∙ sym (c.in_ok-value.ensures.byte held (sym c.byte_at.ensures.reads.same.bytes ∙ told)) ∙ c.if-value-eq-OPEN.true) in
    rw (e.1) (close_failed g.D.Disk.seen g.D.Disk.may_leave g.D.Disk.moment g.D.Disk.left_since records bytes c.byte_at.new.disk c.put.new.disk c.args.gates.now mid (g.met.D.Disk.counts_now c.put.new.disk) c.in_err-put.ensures.does (quiet_durable g.D.Disk.seen g.D.Disk.may_leave g.D.Disk.moment g.D.Disk.left_since c.args.disk.now c.byte_at.new.disk c.byte_at.ensures.reads.same c.byte_at.ensures.reads.fewer c.requires.durable) whole
    (λ held told only. subst (λ (n : ℕ). LeavesOnly g.D.Disk.moment g.D.Disk.left_since c.byte_at.new.disk c.put.new.disk (Torn n 1 held)) gate (c.put.ensures.crash held told only)))

pub returns-in_err-put-clause-crash : goal.returns-in_err-put-clause-crash
returns-in_err-put-clause-crash g c records bytes held s told =
    let mid = quieter g.D.Disk.seen g.D.Disk.may_leave g.D.Disk.moment g.D.Disk.left_since (appending records bytes) c.args.disk.now c.byte_at.new.disk c.args.gates.now debts.Append c.byte_at.ensures.reads.same c.byte_at.ensures.reads.fewer s in
    let gate = c.last_gate-gate.ensures records s.gates_are in
    let whole : (held : List ℕ) → (g.D.Disk.seen c.byte_at.new.disk).bytes ≡ Some held → IsStaged records bytes held = λ held told.
    open_staged records bytes held (reads_kept g.D.Disk.seen g.D.Disk.may_leave g.D.Disk.moment g.D.Disk.left_since (appending records bytes) c.byte_at.new.disk c.args.gates.now debts.Append held told (g.met.D.Disk.leaves_read c.byte_at.new.disk) mid)
    (ap (λ (n : ℕ). get_or held n 0) (sym gate) ∙ sym (c.in_ok-value.ensures.byte held (sym c.byte_at.ensures.reads.same.bytes ∙ told)) ∙ c.if-value-eq-OPEN.true) in
    let mid_told = c.byte_at.ensures.reads.same.bytes ∙ told in
    let only = alone g.D.Disk.seen g.D.Disk.may_leave g.D.Disk.moment g.D.Disk.left_since c.byte_at.new.disk held mid_told (quiet_durable g.D.Disk.seen g.D.Disk.may_leave g.D.Disk.moment g.D.Disk.left_since c.args.disk.now c.byte_at.new.disk c.byte_at.ensures.reads.same c.byte_at.ensures.reads.fewer c.requires.durable) in
    chained g.D.Disk.moment g.D.Disk.left_since c.args.disk.now c.byte_at.new.disk c.put.new.disk (Keeps records (Appending bytes)) (reads_run g.D.Disk.seen g.D.Disk.may_leave g.D.Disk.moment g.D.Disk.left_since (appending records bytes) c.args.disk.now c.byte_at.new.disk c.args.gates.now debts.Append held told s c.byte_at.ensures.reads.since)
    (close_run g.D.Disk.seen g.D.Disk.may_leave g.D.Disk.moment g.D.Disk.left_since records bytes held c.byte_at.new.disk c.put.new.disk (whole held mid_told)
    (subst (λ (n : ℕ). LeavesOnly g.D.Disk.moment g.D.Disk.left_since c.byte_at.new.disk c.put.new.disk (Torn n 1 held)) gate (c.put.ensures.crash held mid_told only)))

pub returns-then-value-eq-OPEN-clause-crash : goal.returns-then-value-eq-OPEN-clause-crash
returns-then-value-eq-OPEN-clause-crash g c records bytes held s told =
    let mid = quieter g.D.Disk.seen g.D.Disk.may_leave g.D.Disk.moment g.D.Disk.left_since (appending records bytes) c.args.disk.now c.byte_at.new.disk c.args.gates.now debts.Append c.byte_at.ensures.reads.same c.byte_at.ensures.reads.fewer s in
    let gate = c.last_gate-gate.ensures records s.gates_are in
    let whole : (held : List ℕ) → (g.D.Disk.seen c.byte_at.new.disk).bytes ≡ Some held → IsStaged records bytes held = λ held told.
    open_staged records bytes held (reads_kept g.D.Disk.seen g.D.Disk.may_leave g.D.Disk.moment g.D.Disk.left_since (appending records bytes) c.byte_at.new.disk c.args.gates.now debts.Append held told (g.met.D.Disk.leaves_read c.byte_at.new.disk) mid)
    (ap (λ (n : ℕ). get_or held n 0) (sym gate) ∙ sym (c.in_ok-value.ensures.byte held (sym c.byte_at.ensures.reads.same.bytes ∙ told)) ∙ c.if-value-eq-OPEN.true) in
    let mid_told = c.byte_at.ensures.reads.same.bytes ∙ told in
    let only = alone g.D.Disk.seen g.D.Disk.may_leave g.D.Disk.moment g.D.Disk.left_since c.byte_at.new.disk held mid_told (quiet_durable g.D.Disk.seen g.D.Disk.may_leave g.D.Disk.moment g.D.Disk.left_since c.args.disk.now c.byte_at.new.disk c.byte_at.ensures.reads.same c.byte_at.ensures.reads.fewer c.requires.durable) in
    chained g.D.Disk.moment g.D.Disk.left_since c.args.disk.now c.byte_at.new.disk c.put.new.disk (Keeps records (Appending bytes)) (reads_run g.D.Disk.seen g.D.Disk.may_leave g.D.Disk.moment g.D.Disk.left_since (appending records bytes) c.args.disk.now c.byte_at.new.disk c.args.gates.now debts.Append held told s c.byte_at.ensures.reads.since)
    (close_run g.D.Disk.seen g.D.Disk.may_leave g.D.Disk.moment g.D.Disk.left_since records bytes held c.byte_at.new.disk c.put.new.disk (whole held mid_told)
    (subst (λ (n : ℕ). LeavesOnly g.D.Disk.moment g.D.Disk.left_since c.byte_at.new.disk c.put.new.disk (Torn n 1 held)) gate (c.put.ensures.crash held mid_told only)))

pub returns-then-value-eq-OPEN-clause-does : goal.returns-then-value-eq-OPEN-clause-does
returns-then-value-eq-OPEN-clause-does g c records bytes s =
    let mid = quieter g.D.Disk.seen g.D.Disk.may_leave g.D.Disk.moment g.D.Disk.left_since (appending records bytes) c.args.disk.now c.byte_at.new.disk c.args.gates.now debts.Append c.byte_at.ensures.reads.same c.byte_at.ensures.reads.fewer s in
    let gate = c.last_gate-gate.ensures records s.gates_are in
    let whole : (held : List ℕ) → (g.D.Disk.seen c.byte_at.new.disk).bytes ≡ Some held → IsStaged records bytes held = λ held told.
    open_staged records bytes held (reads_kept g.D.Disk.seen g.D.Disk.may_leave g.D.Disk.moment g.D.Disk.left_since (appending records bytes) c.byte_at.new.disk c.args.gates.now debts.Append held told (g.met.D.Disk.leaves_read c.byte_at.new.disk) mid)
    (ap (λ (n : ℕ). get_or held n 0) (sym gate) ∙ sym (c.in_ok-value.ensures.byte held (sym c.byte_at.ensures.reads.same.bytes ∙ told)) ∙ c.if-value-eq-OPEN.true) in
    closed g.D.Disk.seen g.D.Disk.may_leave g.D.Disk.moment g.D.Disk.left_since records bytes c.byte_at.new.disk c.put.new.disk c.args.gates.now mid (omega (arith, c.in_ok-put.ensures.does.size)) whole
    (subst (λ (n : ℕ). Overwrites n (0 ∷ []) (g.D.Disk.seen c.byte_at.new.disk) (g.D.Disk.seen c.put.new.disk)) gate c.in_ok-put.ensures.does) c.in_ok-put.ensures.durable

pub returns-in_err-sync-clause-does : goal.returns-in_err-sync-clause-does
returns-in_err-sync-clause-does g c records bytes s =
    let e = err_from_is_err_and c.from_residual-in_err-sync.result c.from_residual-in_err-sync.ensures.1 in
    let mid = quieter g.D.Disk.seen g.D.Disk.may_leave g.D.Disk.moment g.D.Disk.left_since (appending records bytes) c.args.disk.now c.byte_at.new.disk c.args.gates.now debts.Append c.byte_at.ensures.reads.same c.byte_at.ensures.reads.fewer s in
    rw (e.1) (quieter g.D.Disk.seen g.D.Disk.may_leave g.D.Disk.moment g.D.Disk.left_since (appending records bytes) c.byte_at.new.disk c.sync.new.self c.args.gates.now debts.Append c.sync.ensures.same c.sync.ensures.crash mid)

pub returns-clause-does : goal.returns-clause-does
returns-clause-does g c records bytes s =
    let mid = quieter g.D.Disk.seen g.D.Disk.may_leave g.D.Disk.moment g.D.Disk.left_since (appending records bytes) c.args.disk.now c.byte_at.new.disk c.args.gates.now debts.Append c.byte_at.ensures.reads.same c.byte_at.ensures.reads.fewer s in
    let two = quieter g.D.Disk.seen g.D.Disk.may_leave g.D.Disk.moment g.D.Disk.left_since (appending records bytes) c.byte_at.new.disk c.sync.new.self c.args.gates.now debts.Append c.sync.ensures.same c.sync.ensures.crash mid in
    let gate = c.last_gate-gate.ensures records s.gates_are in
    let rest : (held : List ℕ) → (g.D.Disk.seen c.sync.new.self).bytes ≡ Some held → IsAtRest records held = λ held told.
    let first : (g.D.Disk.seen c.args.disk.now).bytes ≡ Some held = sym (c.sync.ensures.same.bytes ∙ c.byte_at.ensures.reads.same.bytes) ∙ told in
    shut_rest records bytes held (reads_kept g.D.Disk.seen g.D.Disk.may_leave g.D.Disk.moment g.D.Disk.left_since (appending records bytes) c.sync.new.self c.args.gates.now debts.Append held told (g.met.D.Disk.leaves_read c.sync.new.self) two)
    (λ is_open. c.if-value-eq-OPEN.false (c.in_ok-value.ensures.byte held first ∙ ap (λ (n : ℕ). get_or held n 0) gate ∙ is_open)) in
    shut_settled g.D.Disk.seen g.D.Disk.may_leave g.D.Disk.moment g.D.Disk.left_since records bytes c.sync.new.self c.args.gates.now two rest c.in_ok-sync.ensures.durable

pub returns-in_err-sync-clause-crash : goal.returns-in_err-sync-clause-crash
returns-in_err-sync-clause-crash g c records bytes held s told =
    let mid = quieter g.D.Disk.seen g.D.Disk.may_leave g.D.Disk.moment g.D.Disk.left_since (appending records bytes) c.args.disk.now c.byte_at.new.disk c.args.gates.now debts.Append c.byte_at.ensures.reads.same c.byte_at.ensures.reads.fewer s in
    let mid_told = c.byte_at.ensures.reads.same.bytes ∙ told in
    chained g.D.Disk.moment g.D.Disk.left_since c.args.disk.now c.byte_at.new.disk c.sync.new.self (Keeps records (Appending bytes)) (reads_run g.D.Disk.seen g.D.Disk.may_leave g.D.Disk.moment g.D.Disk.left_since (appending records bytes) c.args.disk.now c.byte_at.new.disk c.args.gates.now debts.Append held told s c.byte_at.ensures.reads.since)
    (reads_run g.D.Disk.seen g.D.Disk.may_leave g.D.Disk.moment g.D.Disk.left_since (appending records bytes) c.byte_at.new.disk c.sync.new.self c.args.gates.now debts.Append held mid_told mid
    (quiet_run g.D.Disk.may_leave g.D.Disk.moment g.D.Disk.left_since c.byte_at.new.disk c.sync.new.self (g.met.D.Disk.only_now c.byte_at.new.disk) c.sync.ensures.crash c.sync.ensures.time))

pub returns-clause-crash : goal.returns-clause-crash
returns-clause-crash g c records bytes held s told =
    let mid = quieter g.D.Disk.seen g.D.Disk.may_leave g.D.Disk.moment g.D.Disk.left_since (appending records bytes) c.args.disk.now c.byte_at.new.disk c.args.gates.now debts.Append c.byte_at.ensures.reads.same c.byte_at.ensures.reads.fewer s in
    let mid_told = c.byte_at.ensures.reads.same.bytes ∙ told in
    chained g.D.Disk.moment g.D.Disk.left_since c.args.disk.now c.byte_at.new.disk c.sync.new.self (Keeps records (Appending bytes)) (reads_run g.D.Disk.seen g.D.Disk.may_leave g.D.Disk.moment g.D.Disk.left_since (appending records bytes) c.args.disk.now c.byte_at.new.disk c.args.gates.now debts.Append held told s c.byte_at.ensures.reads.since)
    (reads_run g.D.Disk.seen g.D.Disk.may_leave g.D.Disk.moment g.D.Disk.left_since (appending records bytes) c.byte_at.new.disk c.sync.new.self c.args.gates.now debts.Append held mid_told mid
    (quiet_run g.D.Disk.may_leave g.D.Disk.moment g.D.Disk.left_since c.byte_at.new.disk c.sync.new.self (g.met.D.Disk.only_now c.byte_at.new.disk) c.sync.ensures.crash c.sync.ensures.time))
