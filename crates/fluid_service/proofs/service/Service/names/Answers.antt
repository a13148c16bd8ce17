use Rattle.std.proofs.Common.{◌≡◌, [], ◌∙◌}
use Rattle.std.specs.Prelude.{IfOk}
use Rattle.fluid_turn.specs.Entries.{entries}
use Rattle.fluid_opening.specs.Steps.{opened}
use Rattle.fluid_service.proofs.Passages.{passes_by, adding_none}
use Rattle.fluid_service.proofs.service.Service.names.Goals as goal

pub returns : goal.returns
returns g c =
    let h = c.take_noted-held in
    passes_by c.args.key c.close.result h.result.place.seat h.result.place.list (λ l. []) (λ l. IfOk c.names-names.result (λ names. names.items ≡ opened l)) h.ensures.seat (c.close.ensures.key ∙ adding_none h.result.place.seat) c.close.ensures.few h.ensures.list
    (c.names-names.ensures (entries h.result.place.list) h.ensures.stands)
