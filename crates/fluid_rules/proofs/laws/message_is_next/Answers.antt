use Rattle.fluid_rules.proofs.Verdicts.{message-number}
use Rattle.fluid_rules.proofs.laws.message_is_next.Goals as goal

pub returns : goal.returns
returns c = message-number
