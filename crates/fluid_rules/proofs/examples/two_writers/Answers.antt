use Rattle.fluid_rules.proofs.Computed.{two_writers}
use Rattle.fluid_rules.proofs.examples.two_writers.Goals as goal

pub returns : goal.returns
returns c = two_writers
