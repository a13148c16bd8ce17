use Rattle.fluid_rules.proofs.SummariesComputed.{on_the_pending}
use Rattle.fluid_rules.proofs.examples.on_the_pending.Goals as goal

pub returns : goal.returns
returns c = on_the_pending
