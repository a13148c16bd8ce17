use Rattle.std.proofs.Common.{rules, ◌≡◌, length, ap, subst, arith}
use Rattle.std.specs.Prelude.{vec_len}
use Rattle.fluid_disk.specs.Files.{Recording, Row, StandsFor}
use Rattle.fluid_disk.proofs.Promise.{opens_now}
use Rattle.fluid_disk.proofs.Rows.{length_gates}
use Rattle.fluid_disk.proofs.file.RecordFile.len.Goals as goal

pub overflow_sub-result : goal.overflow_sub-result
overflow_sub-result g c =
    let s = c.self.invariant in
    let same : length c.self.inside.gates.items ≡ vec_len c.self.inside.gates = search rules in
    omega (arith, c.len.ensures, same, ap length s.1.gates_are, length_gates 0 s.0.records)

pub returns-clause-count : goal.returns-clause-count
returns-clause-count g c =
    let s = c.self.invariant in
    let same : length c.self.inside.gates.items ≡ vec_len c.self.inside.gates = search rules in
    omega (arith, c.len.ensures, same, ap length s.1.gates_are, length_gates 0 s.0.records, ap (λ (f : Recording g.row.D.Denot). length f.gates) c.self.view_is)

pub returns-clause-records : goal.returns-clause-records
returns-clause-records g c row s =
    let same : length c.self.inside.gates.items ≡ vec_len c.self.inside.gates = search rules in
    omega (arith, c.len.ensures, same, ap length s.gates_are, length_gates 0 row.records, ap (λ (f : Recording g.row.D.Denot). length f.gates) c.self.view_is)

pub returns-clause-crash : goal.returns-clause-crash
returns-clause-crash g c row s = opens_now g.D.Disk.seen g.D.Disk.may_leave row c.args.self.now.disk c.args.self.now.gates c.args.self.now.owed s

pub returns-clause-stands : goal.returns-clause-stands
returns-clause-stands g c = subst (λ (f : Recording g.row.D.Denot). (row : Row) × StandsFor g.D.Disk.seen g.D.Disk.may_leave row f) c.self.view_is c.self.invariant
