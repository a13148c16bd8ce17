use Rattle.std.proofs.Common.{[], ◌∷◌}
use Rattle.fluid_rules.proofs.Legal.{legal-push, legal-first, legal-last}
use Rattle.fluid_rules.proofs.laws.legal_grows.Goals as goal

pub returns : goal.returns
returns c = λ l entry. (λ legal. (legal-first l (entry ∷ []) legal, legal-last l entry legal), λ both. legal-push l entry both.0 both.1)
