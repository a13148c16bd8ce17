use Rattle.fluid_rules.proofs.SummariesComputed.{version_at_reference}
use Rattle.fluid_rules.proofs.examples.version_at_reference.Goals as goal

pub returns : goal.returns
returns c = version_at_reference
