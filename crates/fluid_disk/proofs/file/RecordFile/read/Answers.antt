use Rattle.std.proofs.Common.{◌≡◌, ◌+◌, ◌-◌, ◌<◌, ℕ, List, [], length, get_or, take, drop, ap, sym, subst, ◌∙◌, arith}
use Rattle.std.specs.Prelude.{Some, slice_get}
use Rattle.std.proofs.lemmas.Option.{slice_get-get_or}
use Rattle.fluid_io.specs.Causes.{Tells}
use Rattle.fluid_disk.specs.Disk.{LeavesOnly}
use Rattle.fluid_disk.specs.Records.{gate_before}
use Rattle.fluid_disk.specs.Files.{Recording, StandsFor, Opens}
use Rattle.fluid_disk.proofs.Kept.{gate_behind_it, there_any}
use Rattle.fluid_disk.proofs.Mending.{prefix_shorter, reads_kept}
use Rattle.fluid_disk.proofs.Promise.{opens_reading}
use Rattle.fluid_disk.proofs.Rows.{length_gates}
use Rattle.fluid_disk.proofs.Standing.{tells_from}
use Rattle.fluid_disk.proofs.file.RecordFile.read.Goals as goal

pub overflow_add-gate : goal.overflow_add-gate
overflow_add-gate g c =
    let inv = c.self.invariant in
    let records = inv.0.records in
    let lt : c.args.place < length records = omega (arith, c.requires, ap (λ (f : Recording g.row.D.Denot). length f.gates) c.self.view_is, ap length inv.1.gates_are, length_gates 0 records) in
    let one = c.gate_of-gate.ensures records (c.deref.ensures.value ∙ inv.1.gates_are) in
    let two = c.gate_of-next.ensures records (c.deref-2.ensures.value ∙ inv.1.gates_are) in
    let after : gate_before (c.args.place + 1) records ≡ gate_before c.args.place records + 5 + length (get_or records c.args.place []) = gate_behind_it c.args.place records lt in
    omega (arith, one, two, after, c.gate_of-next.type_inv)

pub overflow_sub-next : goal.overflow_sub-next
overflow_sub-next g c =
    let inv = c.self.invariant in
    let records = inv.0.records in
    let lt : c.args.place < length records = omega (arith, c.requires, ap (λ (f : Recording g.row.D.Denot). length f.gates) c.self.view_is, ap length inv.1.gates_are, length_gates 0 records) in
    let one = c.gate_of-gate.ensures records (c.deref.ensures.value ∙ inv.1.gates_are) in
    let two = c.gate_of-next.ensures records (c.deref-2.ensures.value ∙ inv.1.gates_are) in
    let after : gate_before (c.args.place + 1) records ≡ gate_before c.args.place records + 5 + length (get_or records c.args.place []) = gate_behind_it c.args.place records lt in
    omega (arith, one, two, after)

pub overflow_sub-next-2 : goal.overflow_sub-next-2
overflow_sub-next-2 g c =
    let inv = c.self.invariant in
    let records = inv.0.records in
    let lt : c.args.place < length records = omega (arith, c.requires, ap (λ (f : Recording g.row.D.Denot). length f.gates) c.self.view_is, ap length inv.1.gates_are, length_gates 0 records) in
    let one = c.gate_of-gate.ensures records (c.deref.ensures.value ∙ inv.1.gates_are) in
    let two = c.gate_of-next.ensures records (c.deref-2.ensures.value ∙ inv.1.gates_are) in
    let after : gate_before (c.args.place + 1) records ≡ gate_before c.args.place records + 5 + length (get_or records c.args.place []) = gate_behind_it c.args.place records lt in
    omega (arith, one, two, after)

pub piece-requires : goal.piece-requires
piece-requires g c =
    let inv = c.self.invariant in
    let records = inv.0.records in
    let lt : c.args.place < length records = omega (arith, c.requires, ap (λ (f : Recording g.row.D.Denot). length f.gates) c.self.view_is, ap length inv.1.gates_are, length_gates 0 records) in
    let one = c.gate_of-gate.ensures records (c.deref.ensures.value ∙ inv.1.gates_are) in
    let two = c.gate_of-next.ensures records (c.deref-2.ensures.value ∙ inv.1.gates_are) in
    let after : gate_before (c.args.place + 1) records ≡ gate_before c.args.place records + 5 + length (get_or records c.args.place []) = gate_behind_it c.args.place records lt in
    omega (arith, one, two, after, inv.1.room, prefix_shorter (c.args.place + 1) records)

pub returns-in_err-bytes-clause-crash : goal.returns-in_err-bytes-clause-crash
returns-in_err-bytes-clause-crash g c row s =
    let v = subst (λ (f : Recording g.row.D.Denot). StandsFor g.D.Disk.seen g.D.Disk.may_leave row f) (sym c.self.view_is) s in
    subst (λ (f : Recording g.row.D.Denot). Tells (g.D.Disk.seen f.disk).bytes (λ _. LeavesOnly g.D.Disk.moment g.D.Disk.left_since f.disk c.piece.new.disk (Opens row))) c.self.view_is
    (tells_from (g.D.Disk.seen c.self.inside.disk).bytes (λ _. LeavesOnly g.D.Disk.moment g.D.Disk.left_since c.self.inside.disk c.piece.new.disk (Opens row))
    (λ held told. opens_reading g.D.Disk.seen g.D.Disk.may_leave g.D.Disk.moment g.D.Disk.left_since row c.self.inside.disk c.piece.new.disk c.self.inside.gates.items c.self.inside.owed held told v c.piece.ensures.reads.since))

pub returns-clause-crash : goal.returns-clause-crash
returns-clause-crash g c row s =
    let v = subst (λ (f : Recording g.row.D.Denot). StandsFor g.D.Disk.seen g.D.Disk.may_leave row f) (sym c.self.view_is) s in
    subst (λ (f : Recording g.row.D.Denot). Tells (g.D.Disk.seen f.disk).bytes (λ _. LeavesOnly g.D.Disk.moment g.D.Disk.left_since f.disk c.piece.new.disk (Opens row))) c.self.view_is
    (tells_from (g.D.Disk.seen c.self.inside.disk).bytes (λ _. LeavesOnly g.D.Disk.moment g.D.Disk.left_since c.self.inside.disk c.piece.new.disk (Opens row))
    (λ held told. opens_reading g.D.Disk.seen g.D.Disk.may_leave g.D.Disk.moment g.D.Disk.left_since row c.self.inside.disk c.piece.new.disk c.self.inside.gates.items c.self.inside.owed held told v c.piece.ensures.reads.since))

pub returns-clause-gives : goal.returns-clause-gives
returns-clause-gives g c row s =
    let v = subst (λ (f : Recording g.row.D.Denot). StandsFor g.D.Disk.seen g.D.Disk.may_leave row f) (sym c.self.view_is) s in
    let lt : c.args.place < length row.records = omega (arith, c.requires, ap (λ (f : Recording g.row.D.Denot). length f.gates) c.self.view_is, ap length v.gates_are, length_gates 0 row.records) in
    let one = c.gate_of-gate.ensures row.records (c.deref.ensures.value ∙ v.gates_are) in
    let two = c.gate_of-next.ensures row.records (c.deref-2.ensures.value ∙ v.gates_are) in
    let after = gate_behind_it c.args.place row.records lt in
    let start : c.gate_of-gate.result + 5 ≡ gate_before c.args.place row.records + 5 = omega (arith, one) in
    let size : c.gate_of-next.result - c.gate_of-gate.result - 5 ≡ length (get_or row.records c.args.place []) = omega (arith, one, two, after) in
    subst (λ (f : Recording g.row.D.Denot). Tells (g.D.Disk.seen f.disk).bytes (λ _. slice_get row.records c.args.place ≡ Some c.new.result)) c.self.view_is
    (tells_from (g.D.Disk.seen c.self.inside.disk).bytes (λ _. slice_get row.records c.args.place ≡ Some c.new.result) (λ held told.
    let kept = reads_kept g.D.Disk.seen g.D.Disk.may_leave g.D.Disk.moment g.D.Disk.left_since row c.self.inside.disk c.self.inside.gates.items c.self.inside.owed held told (g.met.D.Disk.leaves_read c.self.inside.disk) v in
    slice_get-get_or row.records c.args.place [] lt ∙ ap (λ (l : List ℕ). Some l) (sym (there_any c.args.place row.records row.owing held lt kept))
    ∙ ap (λ (n : ℕ). Some (take n (drop (gate_before c.args.place row.records + 5) held))) (sym size)
    ∙ ap (λ (n : ℕ). Some (take (c.gate_of-next.result - c.gate_of-gate.result - 5) (drop n held))) (sym start)
    ∙ ap (λ (l : List ℕ). Some l) (sym (c.in_ok-bytes.ensures.bytes held told)) ∙ ap (λ (l : List ℕ). Some l) (sym c.new.ensures)))
