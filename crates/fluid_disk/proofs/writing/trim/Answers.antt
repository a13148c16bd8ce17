use Rattle.std.proofs.Common.{◌≡◌, ◌+◌, ℕ, length, ap, arith}
use Rattle.std.proofs.lemmas.Result.{err_from_is_err_and}
use Rattle.fluid_disk.specs.Records.{spelled}
use Rattle.fluid_disk.proofs.Standing.{at_rest, only}
use Rattle.fluid_disk.proofs.Mending.{trim_failed, trim_run, trimmed}
use Rattle.fluid_disk.proofs.Rows.{length_gates}
use Rattle.fluid_disk.proofs.writing.trim.Goals as goal

pub last_gate-gate-requires : goal.last_gate-gate-requires
last_gate-gate-requires g c = let s = c.requires in omega (arith, ap length s.1.gates_are, length_gates 0 s.0)

pub returns-in_err-shorten-clause-does : goal.returns-in_err-shorten-clause-does
returns-in_err-shorten-clause-does g c records s =
    let e = err_from_is_err_and c.from_residual.result c.from_residual.ensures.1 in
    let place : c.last_gate-gate.result + 1 ≡ length (spelled records) + 1 = ap (λ (n : ℕ). n + 1) (c.last_gate-gate.ensures records s.gates_are) in
    rw (e.1) (λ bytes short. trim_failed g.D.Disk.seen g.D.Disk.may_leave g.D.Disk.moment g.D.Disk.left_since records bytes c.args.disk.now c.shorten.new.disk c.args.gates.now (c.last_gate-gate.result + 1) s (g.met.D.Disk.leaves_read c.args.disk.now)
    (g.met.D.Disk.counts_now c.shorten.new.disk) short place c.in_err-shorten.ensures.does c.shorten.ensures.crash)

pub returns-in_err-shorten-clause-crash : goal.returns-in_err-shorten-clause-crash
returns-in_err-shorten-clause-crash g c records held s told =
    let place : c.last_gate-gate.result + 1 ≡ length (spelled records) + 1 = ap (λ (n : ℕ). n + 1) (c.last_gate-gate.ensures records s.gates_are) in
    let rest = at_rest g.D.Disk.seen g.D.Disk.may_leave records c.args.disk.now c.args.gates.now _ held s (g.met.D.Disk.leaves_read c.args.disk.now) told in
    let alone = only g.D.Disk.seen g.D.Disk.may_leave records c.args.disk.now c.args.gates.now _ held s told in
    trim_run g.D.Disk.seen g.D.Disk.may_leave g.D.Disk.moment g.D.Disk.left_since records held c.args.disk.now c.shorten.new.disk (c.last_gate-gate.result + 1) rest place (c.shorten.ensures.crash held told alone)

pub returns-clause-does : goal.returns-clause-does
returns-clause-does g c records s =
    let place : c.last_gate-gate.result + 1 ≡ length (spelled records) + 1 = ap (λ (n : ℕ). n + 1) (c.last_gate-gate.ensures records s.gates_are) in
    trimmed g.D.Disk.seen g.D.Disk.may_leave g.D.Disk.moment g.D.Disk.left_since records c.args.disk.now c.shorten.new.disk c.args.gates.now (c.last_gate-gate.result + 1) s (g.met.D.Disk.leaves_read c.args.disk.now) place c.in_ok-shorten.ensures.does c.in_ok-shorten.ensures.durable

pub returns-clause-crash : goal.returns-clause-crash
returns-clause-crash g c records held s told =
    let place : c.last_gate-gate.result + 1 ≡ length (spelled records) + 1 = ap (λ (n : ℕ). n + 1) (c.last_gate-gate.ensures records s.gates_are) in
    let rest = at_rest g.D.Disk.seen g.D.Disk.may_leave records c.args.disk.now c.args.gates.now _ held s (g.met.D.Disk.leaves_read c.args.disk.now) told in
    let alone = only g.D.Disk.seen g.D.Disk.may_leave records c.args.disk.now c.args.gates.now _ held s told in
    trim_run g.D.Disk.seen g.D.Disk.may_leave g.D.Disk.moment g.D.Disk.left_since records held c.args.disk.now c.shorten.new.disk (c.last_gate-gate.result + 1) rest place (c.shorten.ensures.crash held told alone)
