use Rattle.fluid_rules.proofs.Acknowledged.{acks-are_summary_acks}
use Rattle.fluid_rules.proofs.laws.acks_are_summary_acks.Goals as goal

pub returns : goal.returns
returns c = acks-are_summary_acks
