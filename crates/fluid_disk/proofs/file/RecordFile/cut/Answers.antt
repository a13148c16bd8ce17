use Rattle.std.proofs.Common.{sym, subst}
use Rattle.fluid_io.specs.Causes.{Tells}
use Rattle.fluid_disk.specs.Disk.{LeavesOnly}
use Rattle.fluid_disk.specs.Files.{Recording, StandsFor, OpensCutting}
use Rattle.fluid_disk.proofs.Promise.{cut_some, opens_cutting}
use Rattle.fluid_disk.proofs.Standing.{tells_from}
use Rattle.fluid_disk.proofs.file.RecordFile.cut.Goals as goal

pub cut_to-requires-clause-stands : goal.cut_to-requires-clause-stands
cut_to-requires-clause-stands g c = c.self.invariant

pub invariant_of-self : goal.invariant_of-self
invariant_of-self g c =
    let s = c.self.invariant in
    cut_some g.D.Disk.seen g.D.Disk.may_leave s.0 c.args.count _ _ _ c.cut_to.result (c.cut_to.ensures.does s.0 s.1)

pub returns-clause-does : goal.returns-clause-does
returns-clause-does g c row s = c.cut_to.ensures.does row (subst (λ (f : Recording g.row.D.Denot). StandsFor g.D.Disk.seen g.D.Disk.may_leave row f) (sym c.self.view_is) s)

pub returns-clause-crash : goal.returns-clause-crash
returns-clause-crash g c row s =
    let v = subst (λ (f : Recording g.row.D.Denot). StandsFor g.D.Disk.seen g.D.Disk.may_leave row f) (sym c.self.view_is) s in
    subst (λ (f : Recording g.row.D.Denot). Tells (g.D.Disk.seen f.disk).bytes (λ _. LeavesOnly g.D.Disk.moment g.D.Disk.left_since f.disk c.cut_to.new.disk (OpensCutting row c.args.count))) c.self.view_is
    (tells_from (g.D.Disk.seen c.self.inside.disk).bytes (λ _. LeavesOnly g.D.Disk.moment g.D.Disk.left_since c.self.inside.disk c.cut_to.new.disk (OpensCutting row c.args.count))
    (λ held told. opens_cutting g.D.Disk.seen g.D.Disk.may_leave g.D.Disk.moment g.D.Disk.left_since row c.args.count c.self.inside.disk c.cut_to.new.disk c.self.inside.gates.items c.self.inside.owed v (c.cut_to.ensures.crash row held v told)))
