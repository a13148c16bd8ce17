use Rattle.fluid_rules.proofs.SummariesComputed.{last_acks}
use Rattle.fluid_rules.proofs.examples.last_acks.Goals as goal

pub returns : goal.returns
returns c = last_acks
