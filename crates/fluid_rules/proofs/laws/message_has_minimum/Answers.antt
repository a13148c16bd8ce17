use Rattle.fluid_rules.proofs.Settled.{message-minimum}
use Rattle.fluid_rules.proofs.laws.message_has_minimum.Goals as goal

pub returns : goal.returns
returns c = message-minimum
