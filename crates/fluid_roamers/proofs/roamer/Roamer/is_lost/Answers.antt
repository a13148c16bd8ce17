use Rattle.std.proofs.Common.{not, is_some, ap, sym, ◌∙◌}
use Rattle.fluid_roamers.proofs.Roamed.{lost_if_none, none_mapped}
use Rattle.fluid_roamers.proofs.roamer.Roamer.is_lost.Goals as goal

pub returns-in-Some-clause-answer : goal.returns-in-Some-clause-answer
returns-in-Some-clause-answer c = λ past stands.
    ap (λ x. not (is_some x)) (sym c.in-Some.is) ∙ lost_if_none _ c.current.result c.args.self.now.outbox past c.current.ensures.answer stands

pub returns-in-Some-clause-kept : goal.returns-in-Some-clause-kept
returns-in-Some-clause-kept c = ap (λ x. not (is_some x)) (sym c.in-Some.is) ∙ none_mapped _ c.current.result ∙ ap (λ x. not (is_some x)) c.current.ensures.kept

pub returns-in-None-clause-answer : goal.returns-in-None-clause-answer
returns-in-None-clause-answer c = λ past stands.
    ap (λ x. not (is_some x)) (sym c.in-None.is) ∙ lost_if_none _ c.current.result c.args.self.now.outbox past c.current.ensures.answer stands

pub returns-in-None-clause-kept : goal.returns-in-None-clause-kept
returns-in-None-clause-kept c = ap (λ x. not (is_some x)) (sym c.in-None.is) ∙ none_mapped _ c.current.result ∙ ap (λ x. not (is_some x)) c.current.ensures.kept
