use Rattle.fluid_rules.proofs.Computed.{first_message}
use Rattle.fluid_rules.proofs.examples.first_message.Goals as goal

pub returns : goal.returns
returns c = first_message
