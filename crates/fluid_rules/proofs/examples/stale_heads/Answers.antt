use Rattle.fluid_rules.proofs.SummariesComputed.{stale_heads}
use Rattle.fluid_rules.proofs.examples.stale_heads.Goals as goal

pub returns : goal.returns
returns c = stale_heads
