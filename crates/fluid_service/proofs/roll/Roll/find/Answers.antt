use Rattle.std.proofs.Common.{subst, sym, ap, ◌∙◌}
use Rattle.std.specs.String.{string_bytes}
use Rattle.fluid_service.specs.Visiting.{Enrolled, visits_of, AreNamed, find_visit, FindsVisit}
use Rattle.fluid_service.proofs.Enrolling.{same_roll}
use Rattle.fluid_service.proofs.roll.Roll.find.Goals as goal

pub invariant_of-self : goal.invariant_of-self
invariant_of-self g c = subst (AreNamed string_bytes) (sym c.fork_under.ensures.same.0) c.self.invariant

pub returns : goal.returns
returns g c = record {
  same = same_roll _ _ _ _ (ap visits_of c.fork_under.ensures.same.0) c.fork_under.ensures.same.1 ∙ c.self.view_is;
  found = subst (λ (e : Enrolled). FindsVisit (find_visit c.args.name.now e.visits) c.fork_under.result) c.self.view_is c.fork_under.ensures.found;
}
