use Rattle.std.proofs.Common.{◌<◌, ◌≤◌, inl, inr, ℕ, List, length, ap, sym, subst, ◌∙◌, arith}
use Rattle.std.specs.Prelude.{◌⊎◌}
use Rattle.std.proofs.lemmas.List.{take_all}
use Rattle.std.proofs.lemmas.Result.{err_from_is_err_and}
use Rattle.fluid_disk.specs.Files.{settled, Keeps, Cutting, Stands}
use Rattle.fluid_disk.proofs.Moments.{chained, weaker}
use Rattle.fluid_disk.proofs.Standing.{told_before, under}
use Rattle.fluid_disk.proofs.Rows.{length_gates}
use Rattle.fluid_disk.proofs.Promise.{cut_below}
use Rattle.fluid_disk.proofs.writing.cut_to.Goals as goal

pub repair-requires : goal.repair-requires
repair-requires g c = let s = c.requires.stands in (s.0, under g.D.Disk.seen g.D.Disk.may_leave s.0 c.args.disk.now c.args.gates.now.items c.deref.result.now c.args.owed.now (sym c.deref.ensures.value) s.1)

pub drop_from-requires-clause-stands : goal.drop_from-requires-clause-stands
drop_from-requires-clause-stands g c =
    let s = c.requires.stands in
    let before = under g.D.Disk.seen g.D.Disk.may_leave s.0 c.args.disk.now c.args.gates.now.items c.deref.result.now c.args.owed.now (sym c.deref.ensures.value) s.1 in
    (s.0.records, under g.D.Disk.seen g.D.Disk.may_leave (settled s.0.records) c.repair.new.disk c.deref.result.now c.args.gates.now.items c.repair.new.owed c.deref.ensures.value (c.in_ok-repair.ensures.does s.0 before))

pub returns-in_err-repair-clause-does : goal.returns-in_err-repair-clause-does
returns-in_err-repair-clause-does g c row s =
    let e = err_from_is_err_and c.from_residual.result c.from_residual.ensures.1 in
    let before = under g.D.Disk.seen g.D.Disk.may_leave row c.args.disk.now c.args.gates.now.items c.deref.result.now c.args.owed.now (sym c.deref.ensures.value) s in
    rw (e.1) (inl (under g.D.Disk.seen g.D.Disk.may_leave row c.repair.new.disk c.deref.result.now c.args.gates.now.items c.repair.new.owed c.deref.ensures.value (c.in_err-repair.ensures.does row before)))

pub returns-in_err-repair-clause-crash : goal.returns-in_err-repair-clause-crash
returns-in_err-repair-clause-crash g c row held s told =
    let before = under g.D.Disk.seen g.D.Disk.may_leave row c.args.disk.now c.args.gates.now.items c.deref.result.now c.args.owed.now (sym c.deref.ensures.value) s in
    weaker g.D.Disk.moment g.D.Disk.left_since c.args.disk.now c.repair.new.disk (Keeps row.records row.owing) (λ image. Keeps row.records row.owing image ⊎ ((c.args.count < length row.records) × Keeps row.records (Cutting c.args.count) image)) (λ image k. inl k)
    (c.repair.ensures.crash row held before told)

pub returns-then-count-len-clause-does : goal.returns-then-count-len-clause-does
returns-then-count-len-clause-does g c row s =
    let before = under g.D.Disk.seen g.D.Disk.may_leave row c.args.disk.now c.args.gates.now.items c.deref.result.now c.args.owed.now (sym c.deref.ensures.value) s in
    let rest = under g.D.Disk.seen g.D.Disk.may_leave (settled row.records) c.repair.new.disk c.deref.result.now c.args.gates.now.items c.repair.new.owed c.deref.ensures.value (c.in_ok-repair.ensures.does row before) in
    cut_below g.D.Disk.seen g.D.Disk.may_leave row c.args.count c.drop_from.new.disk c.drop_from.new.gates.items c.drop_from.new.owed c.drop_from.result (c.drop_from.ensures.does row.records rest)

pub returns-then-count-len-clause-crash : goal.returns-then-count-len-clause-crash
returns-then-count-len-clause-crash g c row held s told =
    let before = under g.D.Disk.seen g.D.Disk.may_leave row c.args.disk.now c.args.gates.now.items c.deref.result.now c.args.owed.now (sym c.deref.ensures.value) s in
    let rest = under g.D.Disk.seen g.D.Disk.may_leave (settled row.records) c.repair.new.disk c.deref.result.now c.args.gates.now.items c.repair.new.owed c.deref.ensures.value (c.in_ok-repair.ensures.does row before) in
    let P : List ℕ → Type 0 = (λ image. Keeps row.records row.owing image ⊎ ((c.args.count < length row.records) × Keeps row.records (Cutting c.args.count) image)) in
    let below : c.args.count < length row.records = omega (arith, c.if-count-len.true, c.len.ensures, c.deref.ensures.len, ap length (c.deref.ensures.value ∙ s.gates_are), length_gates 0 row.records) in
    let one = weaker g.D.Disk.moment g.D.Disk.left_since c.args.disk.now c.repair.new.disk (Keeps row.records row.owing) P (λ image k. inl k) (c.repair.ensures.crash row held before told) in
    let then = told_before (g.D.Disk.seen c.repair.new.disk).bytes (g.D.Disk.seen c.args.disk.now).bytes held (sym c.repair.ensures.told) told in
    chained g.D.Disk.moment g.D.Disk.left_since c.args.disk.now c.repair.new.disk c.drop_from.new.disk P one
    (weaker g.D.Disk.moment g.D.Disk.left_since c.repair.new.disk c.drop_from.new.disk (Keeps row.records (Cutting c.args.count)) P (λ image k. inr (below, k)) (c.drop_from.ensures.crash row.records then.0 rest then.1))

pub returns-clause-does : goal.returns-clause-does
returns-clause-does g c row s =
    let before = under g.D.Disk.seen g.D.Disk.may_leave row c.args.disk.now c.args.gates.now.items c.deref.result.now c.args.owed.now (sym c.deref.ensures.value) s in
    let rest = under g.D.Disk.seen g.D.Disk.may_leave (settled row.records) c.repair.new.disk c.deref.result.now c.args.gates.now.items c.repair.new.owed c.deref.ensures.value (c.in_ok-repair.ensures.does row before) in
    let all : length row.records ≤ c.args.count = omega (arith, c.if-count-len.false, c.len.ensures, c.deref.ensures.len, ap length (c.deref.ensures.value ∙ s.gates_are), length_gates 0 row.records) in
    subst (λ (records : List (List ℕ)). Stands g.D.Disk.seen g.D.Disk.may_leave (settled records) c.repair.new.disk c.args.gates.now.items c.repair.new.owed) (sym (take_all c.args.count row.records all)) rest

pub returns-clause-crash : goal.returns-clause-crash
returns-clause-crash g c row held s told =
    let before = under g.D.Disk.seen g.D.Disk.may_leave row c.args.disk.now c.args.gates.now.items c.deref.result.now c.args.owed.now (sym c.deref.ensures.value) s in
    weaker g.D.Disk.moment g.D.Disk.left_since c.args.disk.now c.repair.new.disk (Keeps row.records row.owing) (λ image. Keeps row.records row.owing image ⊎ ((c.args.count < length row.records) × Keeps row.records (Cutting c.args.count) image)) (λ image k. inl k)
    (c.repair.ensures.crash row held before told)
