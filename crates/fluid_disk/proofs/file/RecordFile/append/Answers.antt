use Rattle.std.proofs.Common.{sym, subst, arith}
use Rattle.fluid_io.specs.Causes.{Tells}
use Rattle.fluid_disk.specs.Disk.{LeavesOnly}
use Rattle.fluid_disk.specs.Records.{IsShort}
use Rattle.fluid_disk.specs.Files.{Recording, StandsFor, OpensAppending}
use Rattle.fluid_disk.proofs.Promise.{appended_some, opens_appending}
use Rattle.fluid_disk.proofs.Standing.{tells_from}
use Rattle.fluid_disk.proofs.file.RecordFile.append.Goals as goal

pub append_to-requires-clause-stands : goal.append_to-requires-clause-stands
append_to-requires-clause-stands g c = c.self.invariant

pub invariant_of-self : goal.invariant_of-self
invariant_of-self g c =
    let s = c.self.invariant in
    appended_some g.D.Disk.seen g.D.Disk.may_leave s.0 c.args.bytes.now _ _ _ c.append_to.result (c.append_to.ensures.does s.0 s.1)

pub returns-clause-does : goal.returns-clause-does
returns-clause-does g c row s = c.append_to.ensures.does row (subst (λ (f : Recording g.row.D.Denot). StandsFor g.D.Disk.seen g.D.Disk.may_leave row f) (sym c.self.view_is) s)

pub returns-clause-crash : goal.returns-clause-crash
returns-clause-crash g c row s =
    let v = subst (λ (f : Recording g.row.D.Denot). StandsFor g.D.Disk.seen g.D.Disk.may_leave row f) (sym c.self.view_is) s in
    let short : IsShort c.args.bytes.now = omega (arith, c.requires) in
    subst (λ (f : Recording g.row.D.Denot). Tells (g.D.Disk.seen f.disk).bytes (λ _. LeavesOnly g.D.Disk.moment g.D.Disk.left_since f.disk c.append_to.new.disk (OpensAppending row c.args.bytes.now))) c.self.view_is
    (tells_from (g.D.Disk.seen c.self.inside.disk).bytes (λ _. LeavesOnly g.D.Disk.moment g.D.Disk.left_since c.self.inside.disk c.append_to.new.disk (OpensAppending row c.args.bytes.now))
    (λ held told. opens_appending g.D.Disk.seen g.D.Disk.may_leave g.D.Disk.moment g.D.Disk.left_since row c.args.bytes.now c.self.inside.disk c.append_to.new.disk c.self.inside.gates.items c.self.inside.owed v short (c.append_to.ensures.crash row held v told)))
