use Rattle.std.proofs.Common.{sym, ◌∙◌}
use Rattle.fluidd.proofs.document.Document.admit.Goals as goal

pub returns-in-Ok-clause-admits : goal.returns-in-Ok-clause-admits
returns-in-Ok-clause-admits c =
    λ limits l stands. (
      sym (c.refusal.ensures limits l stands) ∙ c.in-None.is,
      record { stands = c.in-Ok.ensures.entered limits l stands; waits = c.in-Ok.ensures.line l stands.core },
    )
