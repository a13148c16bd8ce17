use Rattle.fluid_rules.proofs.Pending.{pending-least}
use Rattle.fluid_rules.proofs.laws.pending_is_least.Goals as goal

pub returns : goal.returns
returns c = pending-least
