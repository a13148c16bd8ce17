use Rattle.fluid_rules.proofs.Computed.{noops}
use Rattle.fluid_rules.proofs.examples.noops.Goals as goal

pub returns : goal.returns
returns c = noops
