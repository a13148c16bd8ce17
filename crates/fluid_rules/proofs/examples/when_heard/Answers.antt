use Rattle.fluid_rules.proofs.Computed.{when_heard}
use Rattle.fluid_rules.proofs.examples.when_heard.Goals as goal

pub returns : goal.returns
returns c = when_heard
