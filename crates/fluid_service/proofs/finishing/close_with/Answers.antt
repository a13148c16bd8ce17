use Rattle.std.proofs.Common.{ap, ◌∙◌, ◌++◌, ◌∷◌, []}
use Rattle.fluid_turn.specs.Entries.{by_seat}
use Rattle.fluid_service.proofs.Passages.{few_seen_more}
use Rattle.fluid_service.proofs.finishing.close_with.Goals as goal

pub returns-clause-few : goal.returns-clause-few
returns-clause-few g c =
    let n = c.number-number.ensures.steps _ c.requires.stands in
    let step = by_seat c.args.held.place.seat.number c.args.step.now in
    few_seen_more c.give.result.seen c.args.held.place.list step c.number-number.result
    (ap (λ k. k.seen) c.give.ensures ∙ ap (λ p. p.seat.seen) c.enter.ensures.entered ∙ ap (λ l. l ++ step ∷ []) c.requires.noted) n c.number-number.ensures.few
