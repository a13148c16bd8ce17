use Rattle.fluid_rules.proofs.Verdicts.{verdict-is_message}
use Rattle.fluid_rules.proofs.laws.verdict_is_message.Goals as goal

pub returns : goal.returns
returns c = verdict-is_message
