use Rattle.fluid_counter.proofs.Sums.{replayed_on_law}
use Rattle.fluid_counter.proofs.laws.replay_goes_on.Goals as goal

pub returns : goal.returns
returns c = replayed_on_law
