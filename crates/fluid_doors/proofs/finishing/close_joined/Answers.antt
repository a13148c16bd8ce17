use Rattle.std.proofs.Common.{Ok, refl, sym, ap, ◌∙◌}
use Rattle.fluid_doors.specs.Entering.{with_id}
use Rattle.fluid_doors.proofs.finishing.close_joined.Goals as goal

pub returns-in-Ok-clause-same : goal.returns-in-Ok-clause-same
returns-in-Ok-clause-same g c = ap Ok (c.joined_of.ensures c.in-Ok.raw c.in-Ok.message refl) ∙ ap with_id (sym c.in-Ok.is)
