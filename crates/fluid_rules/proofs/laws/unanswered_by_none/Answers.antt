use Rattle.fluid_rules.proofs.Summaries.{unanswered-by_none}
use Rattle.fluid_rules.proofs.laws.unanswered_by_none.Goals as goal

pub returns : goal.returns
returns c = unanswered-by_none
