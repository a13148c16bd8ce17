use Rattle.fluid_checkpoint.proofs.Rejoined.{moments_are_joined}
use Rattle.fluid_checkpoint.proofs.laws.moments_are_joined.Goals as goal

pub returns : goal.returns
returns c = moments_are_joined
