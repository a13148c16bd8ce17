use Rattle.fluid_rules.proofs.Legal.{legal-first, legal-behind, legal-append}
use Rattle.fluid_rules.proofs.laws.legal_in_parts.Goals as goal

pub returns : goal.returns
returns c = λ first second. (λ legal. (legal-first first second legal, legal-behind first second legal), λ both. legal-append first second both.0 both.1)
