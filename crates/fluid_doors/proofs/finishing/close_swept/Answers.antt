use Rattle.std.proofs.Common.{Ok, Some, refl, sym, ap, ◌∙◌}
use Rattle.fluid_doors.specs.Entering.{with_left}
use Rattle.fluid_doors.proofs.finishing.close_swept.Goals as goal

pub returns-in-Ok-Some-clause-same : goal.returns-in-Ok-Some-clause-same
returns-in-Ok-Some-clause-same g c = ap (λ id. Ok (Some id)) (c.left_by.ensures c.in-Ok-Some.raw _ refl) ∙ ap (λ o. with_left (Ok o)) (sym c.in-Ok-Some.field-0-is) ∙ ap with_left (sym c.in-Ok-Some.is)
