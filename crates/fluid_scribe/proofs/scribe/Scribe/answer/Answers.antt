use Rattle.std.proofs.Common.{◌≡◌, ◌∙◌, ap, subst, rules}
use Rattle.std.specs.Prelude.{IfOk}
use Rattle.fluid_scribe.specs.Jobs.{answer_in}
use Rattle.fluid_scribe.proofs.ByRules.{answers-by_rules}
use Rattle.fluid_scribe.proofs.scribe.Scribe.answer.Goals as goal

pub returns-clause-answer : goal.returns-clause-answer
returns-clause-answer c = search rules

pub returns-clause-stands : goal.returns-clause-stands
returns-clause-stands c = λ ledger legal stands.
    subst (λ wanted. IfOk c.answer_now.result (λ given. given ≡ wanted))
    (ap (λ s. answer_in s c.args.summary c.args.found) stands.is ∙ answers-by_rules ledger legal c.args.summary c.args.found) (returns-clause-answer c)
