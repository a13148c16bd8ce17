use Rattle.fluid_rules.proofs.Computed.{without_scope}
use Rattle.fluid_rules.proofs.examples.without_scope.Goals as goal

pub returns : goal.returns
returns c = without_scope
