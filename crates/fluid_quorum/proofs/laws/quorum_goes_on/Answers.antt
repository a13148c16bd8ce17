use Rattle.fluid_quorum.proofs.Pushed.{goes_on}
use Rattle.fluid_quorum.proofs.laws.quorum_goes_on.Goals as goal

pub returns : goal.returns
returns c = goes_on
