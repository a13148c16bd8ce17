use Rattle.std.proofs.Common.{◌∙◌, ◌≡◌, ◌<◌, ◌+◌, [], ◌∷◌, ℕ, suc, length, take, ap, subst, arith}
use Rattle.std.proofs.lemmas.Result.{err_from_is_err_and}
use Rattle.fluid_disk.specs.Disk.{Torn, LeavesOnly, Overwrites}
use Rattle.fluid_disk.specs.Files.{settled, Stands}
use Rattle.fluid_disk.specs.declared.owed.Owed.TheVariants as debts
use Rattle.fluid_disk.proofs.Standing.{at_rest, only}
use Rattle.fluid_disk.proofs.Mending.{drop_failed, drop_run, dropped, prefix_shorter}
use Rattle.fluid_disk.proofs.Rows.{length_gates}
use Rattle.fluid_disk.proofs.writing.drop_from.Goals as goal

pub put-requires : goal.put-requires
put-requires g c = let s = c.requires.stands in omega (arith, c.gate_of-gate.ensures s.0 (c.deref.ensures.value ∙ s.1.gates_are), s.1.room, prefix_shorter c.args.count s.0)

pub returns-in_err-put-clause-does : goal.returns-in_err-put-clause-does
returns-in_err-put-clause-does g c records s =
    let e = err_from_is_err_and c.from_residual.result c.from_residual.ensures.1 in
    let gate = c.gate_of-gate.ensures records (c.deref.ensures.value ∙ s.gates_are) in
    let below : c.args.count < length records = omega (arith, c.requires.below, ap length s.gates_are, length_gates 0 records) in
    rw (e.1) (drop_failed g.D.Disk.seen g.D.Disk.may_leave g.D.Disk.moment g.D.Disk.left_since records c.args.count c.args.disk.now c.put.new.disk c.args.gates.now.items c.args.owed.now s (g.met.D.Disk.leaves_read c.args.disk.now)
    (g.met.D.Disk.counts_now c.put.new.disk) below c.in_err-put.ensures.does
    (λ held told alone. subst (λ (n : ℕ). LeavesOnly g.D.Disk.moment g.D.Disk.left_since c.args.disk.now c.put.new.disk (Torn n 1 held)) gate (c.put.ensures.crash held told alone)))

pub returns-in_err-put-clause-crash : goal.returns-in_err-put-clause-crash
returns-in_err-put-clause-crash g c records held s told =
    let gate = c.gate_of-gate.ensures records (c.deref.ensures.value ∙ s.gates_are) in
    let rest = at_rest g.D.Disk.seen g.D.Disk.may_leave records c.args.disk.now c.args.gates.now.items c.args.owed.now held s (g.met.D.Disk.leaves_read c.args.disk.now) told in
    let alone = only g.D.Disk.seen g.D.Disk.may_leave records c.args.disk.now c.args.gates.now.items c.args.owed.now held s told in
    drop_run g.D.Disk.seen g.D.Disk.may_leave g.D.Disk.moment g.D.Disk.left_since records c.args.count held c.args.disk.now c.put.new.disk rest
    (subst (λ (n : ℕ). LeavesOnly g.D.Disk.moment g.D.Disk.left_since c.args.disk.now c.put.new.disk (Torn n 1 held)) gate (c.put.ensures.crash held told alone))

pub returns-clause-does : goal.returns-clause-does
returns-clause-does g c records s =
    let gate = c.gate_of-gate.ensures records (c.deref.ensures.value ∙ s.gates_are) in
    let below : c.args.count < length records = omega (arith, c.requires.below, ap length s.gates_are, length_gates 0 records) in
    let more : suc c.args.count ≡ c.args.count + 1 = omega arith in
    rw (c.truncate.ensures.items)
    (subst (λ (n : ℕ). Stands g.D.Disk.seen g.D.Disk.may_leave (settled (take c.args.count records)) c.put.new.disk (take n c.args.gates.now.items) debts.Nothing) more
    (dropped g.D.Disk.seen g.D.Disk.may_leave g.D.Disk.moment g.D.Disk.left_since records c.args.count c.args.disk.now c.put.new.disk c.args.gates.now.items c.args.owed.now s (g.met.D.Disk.leaves_read c.args.disk.now) below
    (omega (arith, c.in_ok-put.ensures.does.size))
    (subst (λ (n : ℕ). Overwrites n (0 ∷ []) (g.D.Disk.seen c.args.disk.now) (g.D.Disk.seen c.put.new.disk)) gate c.in_ok-put.ensures.does) c.in_ok-put.ensures.durable))

pub returns-clause-crash : goal.returns-clause-crash
returns-clause-crash g c records held s told =
    let gate = c.gate_of-gate.ensures records (c.deref.ensures.value ∙ s.gates_are) in
    let rest = at_rest g.D.Disk.seen g.D.Disk.may_leave records c.args.disk.now c.args.gates.now.items c.args.owed.now held s (g.met.D.Disk.leaves_read c.args.disk.now) told in
    let alone = only g.D.Disk.seen g.D.Disk.may_leave records c.args.disk.now c.args.gates.now.items c.args.owed.now held s told in
    drop_run g.D.Disk.seen g.D.Disk.may_leave g.D.Disk.moment g.D.Disk.left_since records c.args.count held c.args.disk.now c.put.new.disk rest
    (subst (λ (n : ℕ). LeavesOnly g.D.Disk.moment g.D.Disk.left_since c.args.disk.now c.put.new.disk (Torn n 1 held)) gate (c.put.ensures.crash held told alone))
