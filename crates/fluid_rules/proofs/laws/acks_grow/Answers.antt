use Rattle.fluid_rules.proofs.Summaries.{acks-push}
use Rattle.fluid_rules.proofs.laws.acks_grow.Goals as goal

pub returns : goal.returns
returns c = acks-push
