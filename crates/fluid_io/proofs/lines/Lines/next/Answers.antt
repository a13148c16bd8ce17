use Rattle.std.proofs.Common.{ap, sym, ◌∙◌}
use Rattle.fluid_io.proofs.Answered.{answers_end}
use Rattle.fluid_io.proofs.lines.Lines.next.Goals as goal

pub returns-then-self-clause-answer : goal.returns-then-self-clause-answer
returns-then-self-clause-answer g c = answers_end _ _ (ap (λ r. r.failed) (sym c.self.view_is) ∙ c.if-self.true)
