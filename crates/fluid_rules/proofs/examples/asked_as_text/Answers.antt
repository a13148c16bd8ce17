use Rattle.fluid_rules.proofs.SummariesComputed.{asked_as_text}
use Rattle.fluid_rules.proofs.examples.asked_as_text.Goals as goal

pub returns : goal.returns
returns c = asked_as_text
