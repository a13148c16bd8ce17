use Rattle.std.proofs.Common.{ap, subst, ◌∙◌}
use Rattle.fluid_turn.specs.Entries.{entries}
use Rattle.fluid_service.specs.Shelved.{Shelved}
use Rattle.fluid_service.specs.Closing.{ComesBack}
use Rattle.fluid_service.specs.Keys.{Serving}
use Rattle.fluid_service.proofs.Endings.{closes_by}
use Rattle.fluid_service.proofs.service.Service.close.Goals as goal

pub returns : goal.returns
returns g c =
    closes_by c.args.self c.take.result.value (entries c.take.result.place.list) (g.B.Shelves.seen c.close.result) c.take.ensures.stands (c.take.ensures.fixed ∙ ap (λ (t : Serving). t.fixed) c.self.view_is)
    (subst (λ (s : Shelved). ComesBack s (g.B.Shelves.seen c.close.result)) c.end.ensures c.close.ensures)
