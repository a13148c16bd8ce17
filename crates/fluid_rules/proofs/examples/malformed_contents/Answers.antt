use Rattle.fluid_rules.proofs.SummariesComputed.{malformed_contents}
use Rattle.fluid_rules.proofs.examples.malformed_contents.Goals as goal

pub returns : goal.returns
returns c = malformed_contents
