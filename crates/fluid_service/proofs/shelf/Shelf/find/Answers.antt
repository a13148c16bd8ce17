use Rattle.std.proofs.Common.{subst}
use Rattle.fluid_service.specs.Shelved.{Shelved, terms_of, AllServed}
use Rattle.fluid_service.specs.Visiting.{find_visit, FindsVisit}
use Rattle.fluid_service.proofs.Standings.{finds_visit, finds_says}
use Rattle.fluid_service.proofs.shelf.Shelf.find.Goals as goal

pub invariant_of-self : goal.invariant_of-self
invariant_of-self g c = rw c.find.ensures.same c.self.invariant

pub returns : goal.returns
returns g c =
    let found : FindsVisit (find_visit c.args.name.now c.args.self.now.visits) c.find.result = subst (λ (s : Shelved). FindsVisit (find_visit c.args.name.now s.visits) c.find.result) c.self.view_is c.find.ensures.found in
    let served : AllServed (terms_of c.args.self.now) c.args.self.now.visits = subst (λ (s : Shelved). AllServed (terms_of s) s.visits) c.self.view_is c.self.invariant.0.served in record {
      same = rw c.find.ensures.same c.self.view_is;
      found = found;
      visit = finds_visit c.args.self.now c.args.name.now c.find.result served found;
      says = λ l stands. finds_says c.args.self.now c.args.name.now c.find.result l stands found;
    }
