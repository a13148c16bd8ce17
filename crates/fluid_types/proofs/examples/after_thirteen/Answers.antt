use Rattle.fluid_types.proofs.Quorums.{after_thirteen}
use Rattle.fluid_types.proofs.examples.after_thirteen.Goals as goal

pub returns : goal.returns
returns c = after_thirteen
