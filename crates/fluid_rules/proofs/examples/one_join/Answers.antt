use Rattle.fluid_rules.proofs.Computed.{one_join}
use Rattle.fluid_rules.proofs.examples.one_join.Goals as goal

pub returns : goal.returns
returns c = one_join
