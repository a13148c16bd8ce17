use Rattle.std.proofs.Common.{◌≡◌, ◌+◌, [], ◌∷◌, ℕ, length, ◌∙◌, ap, subst, arith, length-append}
use Rattle.std.proofs.lemmas.Result.{err_from_is_err_and}
use Rattle.fluid_disk.specs.Disk.{Torn, Only, LeavesOnly, Overwrites, overwritten}
use Rattle.fluid_disk.specs.Records.{framed, spelled}
use Rattle.fluid_disk.proofs.Standing.{at_rest, only, mapped_at, tells_at}
use Rattle.fluid_disk.proofs.Adding.{first_failed, first_run, is_staged, second_failed, second_run, added}
use Rattle.fluid_disk.proofs.Rows.{length_framed, length_gates}
use Rattle.fluid_disk.proofs.writing.add.Goals as goal

pub last_gate-gate-requires : goal.last_gate-gate-requires
last_gate-gate-requires g c = let s = c.requires.stands in omega (arith, ap length (c.deref.ensures.value ∙ s.1.gates_are), length_gates 0 s.0)

pub put-requires : goal.put-requires
put-requires g c = let s = c.requires.stands in omega (arith, c.last_gate-gate.ensures s.0 (c.deref.ensures.value ∙ s.1.gates_are), s.1.room)

pub put-requires-2 : goal.put-requires-2
put-requires-2 g c = let s = c.requires.stands in omega (arith, c.last_gate-gate.ensures s.0 (c.deref.ensures.value ∙ s.1.gates_are), s.1.room, c.in_ok-_longer.ensures.does.size)

-- the first write failed, or its sync
pub returns-in_err-_longer-clause-does : goal.returns-in_err-_longer-clause-does
returns-in_err-_longer-clause-does g c records bytes short is s =
    let e = err_from_is_err_and c.from_residual.result c.from_residual.ensures.1 in
    let place : c.last_gate-gate.result + 1 ≡ length (spelled records) + 1 = ap (λ (n : ℕ). n + 1) (c.last_gate-gate.ensures records (c.deref.ensures.value ∙ s.gates_are)) in
    rw (e.1) (first_failed g.D.Disk.seen g.D.Disk.may_leave g.D.Disk.moment g.D.Disk.left_since records bytes c.args.disk.now c.put.new.disk c.args.gates.now.items c.args.owed.now (c.last_gate-gate.result + 1) (length c.args.frame.now) s
    (g.met.D.Disk.leaves_read c.args.disk.now) (g.met.D.Disk.counts_now c.put.new.disk) short place c.in_err-_longer.ensures.does c.put.ensures.crash)

pub returns-in_err-_longer-clause-crash : goal.returns-in_err-_longer-clause-crash
returns-in_err-_longer-clause-crash g c records bytes held is s told =
    let place : c.last_gate-gate.result + 1 ≡ length (spelled records) + 1 = ap (λ (n : ℕ). n + 1) (c.last_gate-gate.ensures records (c.deref.ensures.value ∙ s.gates_are)) in
    let rest = at_rest g.D.Disk.seen g.D.Disk.may_leave records c.args.disk.now c.args.gates.now.items c.args.owed.now held s (g.met.D.Disk.leaves_read c.args.disk.now) told in
    let alone = only g.D.Disk.seen g.D.Disk.may_leave records c.args.disk.now c.args.gates.now.items c.args.owed.now held s told in
    first_run g.D.Disk.seen g.D.Disk.may_leave g.D.Disk.moment g.D.Disk.left_since records bytes held c.args.disk.now c.put.new.disk (c.last_gate-gate.result + 1) (length c.args.frame.now) rest place (c.put.ensures.crash held told alone)

-- the second failed, or its sync
pub returns-in_err-_opened-clause-does : goal.returns-in_err-_opened-clause-does
returns-in_err-_opened-clause-does g c records bytes short is s =
    let e = err_from_is_err_and c.from_residual-in_err-_opened.result c.from_residual-in_err-_opened.ensures.1 in
    let gate = c.last_gate-gate.ensures records (c.deref.ensures.value ∙ s.gates_are) in
    let place : c.last_gate-gate.result + 1 ≡ length (spelled records) + 1 = ap (λ (n : ℕ). n + 1) gate in
    let whole = is_staged g.D.Disk.seen g.D.Disk.may_leave g.D.Disk.moment g.D.Disk.left_since records bytes c.args.frame.now c.args.disk.now c.put.new.disk c.args.gates.now.items c.args.owed.now (c.last_gate-gate.result + 1) s
    (g.met.D.Disk.leaves_read c.args.disk.now) place is c.in_ok-_longer.ensures.does in
    rw (e.1) (second_failed g.D.Disk.seen g.D.Disk.may_leave g.D.Disk.moment g.D.Disk.left_since records bytes c.args.disk.now c.put.new.disk c.put-2.new.disk c.args.gates.now.items c.args.owed.now s (g.met.D.Disk.counts_now c.put-2.new.disk)
    short (omega (arith, c.in_ok-_longer.ensures.does.size)) c.in_err-_opened.ensures.does whole c.in_ok-_longer.ensures.durable
    (λ held told alone. subst (λ (n : ℕ). LeavesOnly g.D.Disk.moment g.D.Disk.left_since c.put.new.disk c.put-2.new.disk (Torn n 1 held)) gate (c.put-2.ensures.crash held told alone)))

pub returns-in_err-_opened-clause-crash : goal.returns-in_err-_opened-clause-crash
returns-in_err-_opened-clause-crash g c records bytes held is s told =
    let gate = c.last_gate-gate.ensures records (c.deref.ensures.value ∙ s.gates_are) in
    let place : c.last_gate-gate.result + 1 ≡ length (spelled records) + 1 = ap (λ (n : ℕ). n + 1) gate in
    let rest = at_rest g.D.Disk.seen g.D.Disk.may_leave records c.args.disk.now c.args.gates.now.items c.args.owed.now held s (g.met.D.Disk.leaves_read c.args.disk.now) told in
    let alone = only g.D.Disk.seen g.D.Disk.may_leave records c.args.disk.now c.args.gates.now.items c.args.owed.now held s told in
    let one = first_run g.D.Disk.seen g.D.Disk.may_leave g.D.Disk.moment g.D.Disk.left_since records bytes held c.args.disk.now c.put.new.disk (c.last_gate-gate.result + 1) (length c.args.frame.now) rest place (c.put.ensures.crash held told alone) in
    let staged_bytes = overwritten (c.last_gate-gate.result + 1) c.args.frame.now held in
    let mid = mapped_at (overwritten (c.last_gate-gate.result + 1) c.args.frame.now) (g.D.Disk.seen c.args.disk.now).bytes (g.D.Disk.seen c.put.new.disk).bytes held c.in_ok-_longer.ensures.does.bytes told in
    let whole = is_staged g.D.Disk.seen g.D.Disk.may_leave g.D.Disk.moment g.D.Disk.left_since records bytes c.args.frame.now c.args.disk.now c.put.new.disk c.args.gates.now.items c.args.owed.now (c.last_gate-gate.result + 1) s
    (g.met.D.Disk.leaves_read c.args.disk.now) place is c.in_ok-_longer.ensures.does staged_bytes mid in
    let kept = tells_at (g.D.Disk.seen c.put.new.disk).bytes (λ b. Only b (g.D.Disk.may_leave c.put.new.disk)) staged_bytes mid c.in_ok-_longer.ensures.durable in
    second_run g.D.Disk.seen g.D.Disk.may_leave g.D.Disk.moment g.D.Disk.left_since records bytes staged_bytes c.args.disk.now c.put.new.disk c.put-2.new.disk whole one
    (subst (λ (n : ℕ). LeavesOnly g.D.Disk.moment g.D.Disk.left_since c.put.new.disk c.put-2.new.disk (Torn n 1 staged_bytes)) gate (c.put-2.ensures.crash staged_bytes mid kept))

-- both were done
pub returns-clause-does : goal.returns-clause-does
returns-clause-does g c records bytes short is s =
    let gate = c.last_gate-gate.ensures records (c.deref.ensures.value ∙ s.gates_are) in
    let place : c.last_gate-gate.result + 1 ≡ length (spelled records) + 1 = ap (λ (n : ℕ). n + 1) gate in
    let whole = is_staged g.D.Disk.seen g.D.Disk.may_leave g.D.Disk.moment g.D.Disk.left_since records bytes c.args.frame.now c.args.disk.now c.put.new.disk c.args.gates.now.items c.args.owed.now (c.last_gate-gate.result + 1) s
    (g.met.D.Disk.leaves_read c.args.disk.now) place is c.in_ok-_longer.ensures.does in
    let writes = subst (λ (n : ℕ). Overwrites n (1 ∷ []) (g.D.Disk.seen c.put.new.disk) (g.D.Disk.seen c.put-2.new.disk)) gate c.in_ok-_opened.ensures.does in
    let size : length c.args.frame.now ≡ 5 + length bytes = omega (arith, ap length is, length-append (framed bytes) (0 ∷ []), length_framed bytes) in
    let next = c.last_gate-gate.result + length c.args.frame.now in
    rw (c.push_reserved.ensures.items) (added g.D.Disk.seen g.D.Disk.may_leave g.D.Disk.moment g.D.Disk.left_since records bytes c.args.disk.now c.put.new.disk c.put-2.new.disk c.args.gates.now.items c.args.owed.now next s
    short (omega (arith, gate, size)) (omega (arith, c.in_ok-_longer.ensures.does.size, c.in_ok-_opened.ensures.does.size)) whole writes c.in_ok-_opened.ensures.durable)

pub returns-clause-crash : goal.returns-clause-crash
returns-clause-crash g c records bytes held is s told =
    let gate = c.last_gate-gate.ensures records (c.deref.ensures.value ∙ s.gates_are) in
    let place : c.last_gate-gate.result + 1 ≡ length (spelled records) + 1 = ap (λ (n : ℕ). n + 1) gate in
    let rest = at_rest g.D.Disk.seen g.D.Disk.may_leave records c.args.disk.now c.args.gates.now.items c.args.owed.now held s (g.met.D.Disk.leaves_read c.args.disk.now) told in
    let alone = only g.D.Disk.seen g.D.Disk.may_leave records c.args.disk.now c.args.gates.now.items c.args.owed.now held s told in
    let one = first_run g.D.Disk.seen g.D.Disk.may_leave g.D.Disk.moment g.D.Disk.left_since records bytes held c.args.disk.now c.put.new.disk (c.last_gate-gate.result + 1) (length c.args.frame.now) rest place (c.put.ensures.crash held told alone) in
    let staged_bytes = overwritten (c.last_gate-gate.result + 1) c.args.frame.now held in
    let mid = mapped_at (overwritten (c.last_gate-gate.result + 1) c.args.frame.now) (g.D.Disk.seen c.args.disk.now).bytes (g.D.Disk.seen c.put.new.disk).bytes held c.in_ok-_longer.ensures.does.bytes told in
    let whole = is_staged g.D.Disk.seen g.D.Disk.may_leave g.D.Disk.moment g.D.Disk.left_since records bytes c.args.frame.now c.args.disk.now c.put.new.disk c.args.gates.now.items c.args.owed.now (c.last_gate-gate.result + 1) s
    (g.met.D.Disk.leaves_read c.args.disk.now) place is c.in_ok-_longer.ensures.does staged_bytes mid in
    let kept = tells_at (g.D.Disk.seen c.put.new.disk).bytes (λ b. Only b (g.D.Disk.may_leave c.put.new.disk)) staged_bytes mid c.in_ok-_longer.ensures.durable in
    second_run g.D.Disk.seen g.D.Disk.may_leave g.D.Disk.moment g.D.Disk.left_since records bytes staged_bytes c.args.disk.now c.put.new.disk c.put-2.new.disk whole one
    (subst (λ (n : ℕ). LeavesOnly g.D.Disk.moment g.D.Disk.left_since c.put.new.disk c.put-2.new.disk (Torn n 1 staged_bytes)) gate (c.put-2.ensures.crash staged_bytes mid kept))
