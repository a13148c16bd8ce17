use Rattle.fluid_rules.proofs.Summaries.{unanswered-push}
use Rattle.fluid_rules.proofs.laws.unanswered_grows.Goals as goal

pub returns : goal.returns
returns c = unanswered-push
