use Rattle.std.proofs.Common.{refl, sym, subst}
use Rattle.std.proofs.lemmas.Result.{err_from_is_err_and}
use Rattle.fluid_disk.specs.declared.owed.Owed.TheVariants as debts
use Rattle.fluid_disk.specs.Disk.{LeavesOnly}
use Rattle.fluid_disk.specs.Files.{Owing, Nothing, Appending, Cutting, Keeps}
use Rattle.fluid_disk.proofs.Debts.{owing_nothing, owing_append, owing_cut, restands}
use Rattle.fluid_disk.proofs.writing.repair.Goals as goal

pub returns-in-Nothing-clause-does : goal.returns-in-Nothing-clause-does
returns-in-Nothing-clause-does g c row s =
    restands g.D.Disk.seen g.D.Disk.may_leave row.records row.owing Nothing c.args.disk.now c.args.gates.now c.args.owed.now c.args.owed.now (owing_nothing row.owing c.args.owed.now s.noted c.in-Nothing.is) refl s

pub returns-in_err-repair_append-in-Append-clause-does : goal.returns-in_err-repair_append-in-Append-clause-does
returns-in_err-repair_append-in-Append-clause-does g c row s =
    let e = err_from_is_err_and c.from_residual.result c.from_residual.ensures.1 in
    let o = owing_append row.owing c.args.owed.now s.noted c.in-Append.is in
    let before = restands g.D.Disk.seen g.D.Disk.may_leave row.records row.owing (Appending o.0) c.args.disk.now c.args.gates.now c.args.owed.now debts.Append o.1 c.in-Append.is s in
    rw (e.1) (restands g.D.Disk.seen g.D.Disk.may_leave row.records (Appending o.0) row.owing c.repair_append.new.disk c.args.gates.now debts.Append c.args.owed.now (sym o.1) (sym c.in-Append.is)
    (c.in_err-repair_append-in-Append.ensures.does row.records o.0 before))

pub returns-in_ok-repair_append-in-Append-clause-does : goal.returns-in_ok-repair_append-in-Append-clause-does
returns-in_ok-repair_append-in-Append-clause-does g c row s =
    let o = owing_append row.owing c.args.owed.now s.noted c.in-Append.is in
    let before = restands g.D.Disk.seen g.D.Disk.may_leave row.records row.owing (Appending o.0) c.args.disk.now c.args.gates.now c.args.owed.now debts.Append o.1 c.in-Append.is s in
    c.in_ok-repair_append-in-Append.ensures.does row.records o.0 before

pub returns-in_err-repair_cut-in-Cut-clause-does : goal.returns-in_err-repair_cut-in-Cut-clause-does
returns-in_err-repair_cut-in-Cut-clause-does g c row s =
    let e = err_from_is_err_and c.from_residual-in_err-repair_cut-in-Cut.result c.from_residual-in_err-repair_cut-in-Cut.ensures.1 in
    let o = owing_cut row.owing c.args.owed.now c.in-Cut.count s.noted c.in-Cut.is in
    let before = restands g.D.Disk.seen g.D.Disk.may_leave row.records row.owing (Cutting c.in-Cut.count) c.args.disk.now c.args.gates.now c.args.owed.now (debts.Cut c.in-Cut.count) o c.in-Cut.is s in
    rw (e.1) (restands g.D.Disk.seen g.D.Disk.may_leave row.records (Cutting c.in-Cut.count) row.owing c.repair_cut.new.disk c.args.gates.now (debts.Cut c.in-Cut.count) c.args.owed.now (sym o) (sym c.in-Cut.is)
    (c.in_err-repair_cut-in-Cut.ensures.does row.records before))

pub returns-in_ok-repair_cut-in-Cut-clause-does : goal.returns-in_ok-repair_cut-in-Cut-clause-does
returns-in_ok-repair_cut-in-Cut-clause-does g c row s =
    let o = owing_cut row.owing c.args.owed.now c.in-Cut.count s.noted c.in-Cut.is in
    let before = restands g.D.Disk.seen g.D.Disk.may_leave row.records row.owing (Cutting c.in-Cut.count) c.args.disk.now c.args.gates.now c.args.owed.now (debts.Cut c.in-Cut.count) o c.in-Cut.is s in
    c.in_ok-repair_cut-in-Cut.ensures.does row.records before

pub returns-in_err-repair_append-in-Append-clause-crash : goal.returns-in_err-repair_append-in-Append-clause-crash
returns-in_err-repair_append-in-Append-clause-crash g c row held s told =
    let o = owing_append row.owing c.args.owed.now s.noted c.in-Append.is in
    let before = restands g.D.Disk.seen g.D.Disk.may_leave row.records row.owing (Appending o.0) c.args.disk.now c.args.gates.now c.args.owed.now debts.Append o.1 c.in-Append.is s in
    subst (λ (w : Owing). LeavesOnly g.D.Disk.moment g.D.Disk.left_since c.args.disk.now c.repair_append.new.disk (Keeps row.records w)) (sym o.1) (c.repair_append.ensures.crash row.records o.0 held before told)

pub returns-in_err-repair_cut-in-Cut-clause-crash : goal.returns-in_err-repair_cut-in-Cut-clause-crash
returns-in_err-repair_cut-in-Cut-clause-crash g c row held s told =
    let o = owing_cut row.owing c.args.owed.now c.in-Cut.count s.noted c.in-Cut.is in
    let before = restands g.D.Disk.seen g.D.Disk.may_leave row.records row.owing (Cutting c.in-Cut.count) c.args.disk.now c.args.gates.now c.args.owed.now (debts.Cut c.in-Cut.count) o c.in-Cut.is s in
    subst (λ (w : Owing). LeavesOnly g.D.Disk.moment g.D.Disk.left_since c.args.disk.now c.repair_cut.new.disk (Keeps row.records w)) (sym o) (c.repair_cut.ensures.crash row.records held before told)

pub returns-in_ok-repair_append-in-Append-clause-crash : goal.returns-in_ok-repair_append-in-Append-clause-crash
returns-in_ok-repair_append-in-Append-clause-crash g c row held s told =
    let o = owing_append row.owing c.args.owed.now s.noted c.in-Append.is in
    let before = restands g.D.Disk.seen g.D.Disk.may_leave row.records row.owing (Appending o.0) c.args.disk.now c.args.gates.now c.args.owed.now debts.Append o.1 c.in-Append.is s in
    subst (λ (w : Owing). LeavesOnly g.D.Disk.moment g.D.Disk.left_since c.args.disk.now c.repair_append.new.disk (Keeps row.records w)) (sym o.1) (c.repair_append.ensures.crash row.records o.0 held before told)

pub returns-in_ok-repair_cut-in-Cut-clause-crash : goal.returns-in_ok-repair_cut-in-Cut-clause-crash
returns-in_ok-repair_cut-in-Cut-clause-crash g c row held s told =
    let o = owing_cut row.owing c.args.owed.now c.in-Cut.count s.noted c.in-Cut.is in
    let before = restands g.D.Disk.seen g.D.Disk.may_leave row.records row.owing (Cutting c.in-Cut.count) c.args.disk.now c.args.gates.now c.args.owed.now (debts.Cut c.in-Cut.count) o c.in-Cut.is s in
    subst (λ (w : Owing). LeavesOnly g.D.Disk.moment g.D.Disk.left_since c.args.disk.now c.repair_cut.new.disk (Keeps row.records w)) (sym o) (c.repair_cut.ensures.crash row.records held before told)
