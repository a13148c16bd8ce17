use Rattle.std.proofs.Common.{ℕ, List, ◌++◌, sym, ap, ◌∙◌, append-nil, map}
use Rattle.std.specs.String.{string_bytes}
use Rattle.fluid_service.specs.Visiting.{Visiting, Enrolled, name_of}
use Rattle.fluid_service.proofs.Enrolling.{names_of}
use Rattle.fluid_service.proofs.roll.Roll.names.Goals as goal

pub returns : goal.returns
returns g c =
    sym (append-nil c.loop-row.names.items) ∙ ap (λ rows. c.loop-row.names.items ++ map (λ (row : List ℕ × Visiting). row.0) rows) (sym c.in-None.ensures.steps.0) ∙ c.loop-row.invariant
    ∙ ap (map (λ (row : List ℕ × Visiting). row.0)) (c.into_iter-row-iterator.ensures.into_iter_gives ∙ c.values-row-items.ensures.rest)
    ∙ names_of string_bytes c.self.inside.rows.entries c.self.invariant ∙ ap (λ (e : Enrolled). map name_of e.visits) c.self.view_is
