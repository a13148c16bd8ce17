use Rattle.std.proofs.Common.{◌++◌, ◌∷◌, [], refl, ap, ◌∙◌}
use Rattle.fluid_scribe.specs.Waiting.{cut}
use Rattle.fluid_scribe.proofs.Lowest.{pushed}
use Rattle.fluid_scribe.proofs.lows.Lows.push.Goals as goal

pub returns-clause-pushed : goal.returns-clause-pushed
returns-clause-pushed c = λ ms of answered.
    pushed ms c.args.message.now c.args.self.now _ c.if-message-self.false of
    (c.push_back_reserved.ensures.items
    ∙ ap (λ l. l ++ c.reference_of-reference.result ∷ []) c.drop_above.ensures.list
    ∙ ap (λ r. cut r c.args.self.now.list.items ++ r ∷ []) c.reference_of-reference.ensures)
    refl
