use Rattle.std.proofs.Common.{◌≡◌, ap, subst, map, ◌∙◌}
use Rattle.std.specs.Prelude.{IfOk}
use Rattle.fluid_service.specs.Visiting.{name_of}
use Rattle.fluid_service.specs.Shelved.{Shelved}
use Rattle.fluid_service.proofs.shelf.Shelf.names.Goals as goal

pub returns : goal.returns
returns g c = λ l stands.
    subst (λ all. IfOk c.names.result (λ names. names.items ≡ all)) (ap (λ (s : Shelved). map name_of s.visits) c.self.view_is ∙ stands.names) c.names.ensures
