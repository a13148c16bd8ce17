use Rattle.fluid_rules.proofs.SummariesComputed.{old_references}
use Rattle.fluid_rules.proofs.examples.old_references.Goals as goal

pub returns : goal.returns
returns c = old_references
