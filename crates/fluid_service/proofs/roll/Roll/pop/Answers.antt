use Rattle.std.proofs.Common.{sym, ap, ◌∙◌}
use Rattle.std.specs.String.{string_bytes}
use Rattle.fluid_service.specs.Visiting.{Enrolled, visits_of}
use Rattle.fluid_service.proofs.Enrolling.{named_init, visits_push}
use Rattle.fluid_service.proofs.roll.Roll.pop.Goals as goal

pub invariant_of-self-2 : goal.invariant_of-self-2
invariant_of-self-2 g c = (named_init string_bytes c.pop.new.self.entries (c.in_ok-row.field-0-0, c.in_ok-row.row) (rw c.in_ok-row.ensures.entries at c.self.invariant)).0

pub returns : goal.returns
returns g c = (
  sym (ap (λ (e : Enrolled). e.visits) c.self.view_is) ∙ ap visits_of c.in_ok-row.ensures.entries ∙ visits_push string_bytes c.pop.new.self.entries (c.in_ok-row.field-0-0, c.in_ok-row.row),
  (named_init string_bytes c.pop.new.self.entries (c.in_ok-row.field-0-0, c.in_ok-row.row) (rw c.in_ok-row.ensures.entries at c.self.invariant)).1,
)
