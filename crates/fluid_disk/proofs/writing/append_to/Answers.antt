use Rattle.std.proofs.Common.{◌≡◌, inl, inr, ℕ, List, sym, ◌∙◌}
use Rattle.std.specs.Prelude.{◌⊎◌}
use Rattle.std.proofs.lemmas.Result.{err_from_is_err_and}
use Rattle.fluid_disk.specs.Files.{settled, Keeps, Appending}
use Rattle.fluid_disk.proofs.Moments.{started, chained, weaker}
use Rattle.fluid_disk.proofs.Standing.{told_before, tells_at, under}
use Rattle.fluid_disk.proofs.writing.append_to.Goals as goal

pub repair-requires : goal.repair-requires
repair-requires g c =
    let s = c.requires.stands in
    (s.0, under g.D.Disk.seen g.D.Disk.may_leave s.0 c.args.disk.now c.args.gates.now.items c.deref.result.now c.args.owed.now (sym (c.deref.ensures.value ∙ c.reserve.ensures.items)) s.1)

pub add-requires-clause-stands : goal.add-requires-clause-stands
add-requires-clause-stands g c =
    let s = c.requires.stands in
    let same : c.deref.result.now ≡ c.args.gates.now.items = c.deref.ensures.value ∙ c.reserve.ensures.items in
    let before = under g.D.Disk.seen g.D.Disk.may_leave s.0 c.args.disk.now c.args.gates.now.items c.deref.result.now c.args.owed.now (sym same) s.1 in
    (s.0.records, under g.D.Disk.seen g.D.Disk.may_leave (settled s.0.records) c.repair.new.disk c.deref.result.now c.reserve.new.self.items c.repair.new.owed c.deref.ensures.value (c.in_ok-repair.ensures.does s.0 before))

pub returns-in_err-frame-clause-does : goal.returns-in_err-frame-clause-does
returns-in_err-frame-clause-does g c row s =
    let e = err_from_is_err_and c.from_residual.result c.from_residual.ensures.1 in
    rw (e.1) (inl s)

pub returns-in_err-reserve-clause-does : goal.returns-in_err-reserve-clause-does
returns-in_err-reserve-clause-does g c row s =
    let e = err_from_is_err_and c.from_residual-in_err-reserve.result c.from_residual-in_err-reserve.ensures.1 in
    rw (e.1) (inl (under g.D.Disk.seen g.D.Disk.may_leave row c.args.disk.now c.args.gates.now.items c.reserve.new.self.items c.args.owed.now (sym c.reserve.ensures.items) s))

pub returns-in_err-repair-clause-does : goal.returns-in_err-repair-clause-does
returns-in_err-repair-clause-does g c row s =
    let e = err_from_is_err_and c.from_residual-in_err-repair.result c.from_residual-in_err-repair.ensures.1 in
    let same : c.deref.result.now ≡ c.args.gates.now.items = c.deref.ensures.value ∙ c.reserve.ensures.items in
    let before = under g.D.Disk.seen g.D.Disk.may_leave row c.args.disk.now c.args.gates.now.items c.deref.result.now c.args.owed.now (sym same) s in
    rw (e.1) (inl (under g.D.Disk.seen g.D.Disk.may_leave row c.repair.new.disk c.deref.result.now c.reserve.new.self.items c.repair.new.owed c.deref.ensures.value (c.in_err-repair.ensures.does row before)))

pub returns-in_err-add-clause-does : goal.returns-in_err-add-clause-does
returns-in_err-add-clause-does g c row s =
    let e = err_from_is_err_and c.from_residual-in_err-add.result c.from_residual-in_err-add.ensures.1 in
    let same : c.deref.result.now ≡ c.args.gates.now.items = c.deref.ensures.value ∙ c.reserve.ensures.items in
    let before = under g.D.Disk.seen g.D.Disk.may_leave row c.args.disk.now c.args.gates.now.items c.deref.result.now c.args.owed.now (sym same) s in
    let rest = under g.D.Disk.seen g.D.Disk.may_leave (settled row.records) c.repair.new.disk c.deref.result.now c.reserve.new.self.items c.repair.new.owed c.deref.ensures.value (c.in_ok-repair.ensures.does row before) in
    rw (e.1) (inr (e.2, c.in_err-add.ensures.does row.records c.args.bytes.now c.frame.ensures.short (c.deref-2.ensures.value ∙ c.in_ok-frame.ensures.frame) rest))

pub returns-clause-does : goal.returns-clause-does
returns-clause-does g c row s =
    let same : c.deref.result.now ≡ c.args.gates.now.items = c.deref.ensures.value ∙ c.reserve.ensures.items in
    let before = under g.D.Disk.seen g.D.Disk.may_leave row c.args.disk.now c.args.gates.now.items c.deref.result.now c.args.owed.now (sym same) s in
    let rest = under g.D.Disk.seen g.D.Disk.may_leave (settled row.records) c.repair.new.disk c.deref.result.now c.reserve.new.self.items c.repair.new.owed c.deref.ensures.value (c.in_ok-repair.ensures.does row before) in
    c.in_ok-add.ensures.does row.records c.args.bytes.now c.frame.ensures.short (c.deref-2.ensures.value ∙ c.in_ok-frame.ensures.frame) rest

pub returns-in_err-frame-clause-crash : goal.returns-in_err-frame-clause-crash
returns-in_err-frame-clause-crash g c row held s told =
    started g.D.Disk.moment g.D.Disk.left_since c.args.disk.now (λ image. Keeps row.records row.owing image ⊎ Keeps row.records (Appending c.args.bytes.now) image)
    (λ image left. inl (tells_at (g.D.Disk.seen c.args.disk.now).bytes (λ _. (b : List ℕ) → g.D.Disk.may_leave c.args.disk.now b → Keeps row.records row.owing b) held told s.keeps image (g.met.D.Disk.only_now c.args.disk.now image left)))

pub returns-in_err-reserve-clause-crash : goal.returns-in_err-reserve-clause-crash
returns-in_err-reserve-clause-crash g c row held s told =
    started g.D.Disk.moment g.D.Disk.left_since c.args.disk.now (λ image. Keeps row.records row.owing image ⊎ Keeps row.records (Appending c.args.bytes.now) image)
    (λ image left. inl (tells_at (g.D.Disk.seen c.args.disk.now).bytes (λ _. (b : List ℕ) → g.D.Disk.may_leave c.args.disk.now b → Keeps row.records row.owing b) held told s.keeps image (g.met.D.Disk.only_now c.args.disk.now image left)))

pub returns-in_err-repair-clause-crash : goal.returns-in_err-repair-clause-crash
returns-in_err-repair-clause-crash g c row held s told =
    let same : c.deref.result.now ≡ c.args.gates.now.items = c.deref.ensures.value ∙ c.reserve.ensures.items in
    let before = under g.D.Disk.seen g.D.Disk.may_leave row c.args.disk.now c.args.gates.now.items c.deref.result.now c.args.owed.now (sym same) s in
    weaker g.D.Disk.moment g.D.Disk.left_since c.args.disk.now c.repair.new.disk (Keeps row.records row.owing) (λ image. Keeps row.records row.owing image ⊎ Keeps row.records (Appending c.args.bytes.now) image) (λ image k. inl k)
    (c.repair.ensures.crash row held before told)

pub returns-in_err-add-clause-crash : goal.returns-in_err-add-clause-crash
returns-in_err-add-clause-crash g c row held s told =
    let same : c.deref.result.now ≡ c.args.gates.now.items = c.deref.ensures.value ∙ c.reserve.ensures.items in
    let before = under g.D.Disk.seen g.D.Disk.may_leave row c.args.disk.now c.args.gates.now.items c.deref.result.now c.args.owed.now (sym same) s in
    let rest = under g.D.Disk.seen g.D.Disk.may_leave (settled row.records) c.repair.new.disk c.deref.result.now c.reserve.new.self.items c.repair.new.owed c.deref.ensures.value (c.in_ok-repair.ensures.does row before) in
    let P : List ℕ → Type 0 = λ image. Keeps row.records row.owing image ⊎ Keeps row.records (Appending c.args.bytes.now) image in
    let one = weaker g.D.Disk.moment g.D.Disk.left_since c.args.disk.now c.repair.new.disk (Keeps row.records row.owing) P (λ image k. inl k) (c.repair.ensures.crash row held before told) in
    let then = told_before (g.D.Disk.seen c.repair.new.disk).bytes (g.D.Disk.seen c.args.disk.now).bytes held (sym c.repair.ensures.told) told in
    chained g.D.Disk.moment g.D.Disk.left_since c.args.disk.now c.repair.new.disk c.add.new.disk P one
    (weaker g.D.Disk.moment g.D.Disk.left_since c.repair.new.disk c.add.new.disk (Keeps row.records (Appending c.args.bytes.now)) P (λ image k. inr k)
    (c.add.ensures.crash row.records c.args.bytes.now then.0 (c.deref-2.ensures.value ∙ c.in_ok-frame.ensures.frame) rest then.1))

pub returns-clause-crash : goal.returns-clause-crash
returns-clause-crash g c row held s told =
    let same : c.deref.result.now ≡ c.args.gates.now.items = c.deref.ensures.value ∙ c.reserve.ensures.items in
    let before = under g.D.Disk.seen g.D.Disk.may_leave row c.args.disk.now c.args.gates.now.items c.deref.result.now c.args.owed.now (sym same) s in
    let rest = under g.D.Disk.seen g.D.Disk.may_leave (settled row.records) c.repair.new.disk c.deref.result.now c.reserve.new.self.items c.repair.new.owed c.deref.ensures.value (c.in_ok-repair.ensures.does row before) in
    let P : List ℕ → Type 0 = λ image. Keeps row.records row.owing image ⊎ Keeps row.records (Appending c.args.bytes.now) image in
    let one = weaker g.D.Disk.moment g.D.Disk.left_since c.args.disk.now c.repair.new.disk (Keeps row.records row.owing) P (λ image k. inl k) (c.repair.ensures.crash row held before told) in
    let then = told_before (g.D.Disk.seen c.repair.new.disk).bytes (g.D.Disk.seen c.args.disk.now).bytes held (sym c.repair.ensures.told) told in
    chained g.D.Disk.moment g.D.Disk.left_since c.args.disk.now c.repair.new.disk c.add.new.disk P one
    (weaker g.D.Disk.moment g.D.Disk.left_since c.repair.new.disk c.add.new.disk (Keeps row.records (Appending c.args.bytes.now)) P (λ image k. inr k)
    (c.add.ensures.crash row.records c.args.bytes.now then.0 (c.deref-2.ensures.value ∙ c.in_ok-frame.ensures.frame) rest then.1))
