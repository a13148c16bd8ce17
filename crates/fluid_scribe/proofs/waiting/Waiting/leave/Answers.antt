use Rattle.std.proofs.Common.{◌==◌, not, refl, rules, ◌∙◌}
use Rattle.std.proofs.lemmas.Fn.{filter_same}
use Rattle.fluid_scribe.proofs.Lowest.{first-answered}
use Rattle.fluid_scribe.proofs.waiting.Waiting.leave.Goals as goal

pub returns-then-starts_with-clause-messages : goal.returns-then-starts_with-clause-messages
returns-then-starts_with-clause-messages c =
    rw (← c.self.view_is)
    (rw c.in-Some.is (c.pop.ensures.rest ∙ first-answered c.in-Some.number c.self.inside.queue.items (c.if-starts_with.ensures refl) (c.self.invariant c.if-self.true).rising))

pub returns-clause-messages : goal.returns-clause-messages
returns-clause-messages c =
    rw (← c.self.view_is)
    (rw c.in-Some.is (filter_same _ (λ s. not (c.in-Some.number == s.number)) _ (λ x b f' k. search rules) _ _ c.retain.ensures.filtered))
