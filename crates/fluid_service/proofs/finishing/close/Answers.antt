use Rattle.std.proofs.Common.{ap, ◌∙◌}
use Rattle.fluid_service.proofs.Passages.{few_seen}
use Rattle.fluid_service.proofs.finishing.close.Goals as goal

pub returns-clause-few : goal.returns-clause-few
returns-clause-few g c =
    let n = c.number-number.ensures.steps _ c.requires.stands in
    few_seen c.give.result.seen c.args.held.place.list c.number-number.result (ap (λ k. k.seen) c.give.ensures ∙ c.requires.noted) n c.number-number.ensures.few
