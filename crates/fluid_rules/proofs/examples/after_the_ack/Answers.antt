use Rattle.fluid_rules.proofs.SummariesComputed.{after_the_ack}
use Rattle.fluid_rules.proofs.examples.after_the_ack.Goals as goal

pub returns : goal.returns
returns c = after_the_ack
