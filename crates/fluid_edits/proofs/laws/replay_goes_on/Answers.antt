use Rattle.fluid_edits.proofs.Replays.{replayed_on_law}
use Rattle.fluid_edits.proofs.laws.replay_goes_on.Goals as goal

pub returns : goal.returns
returns c = replayed_on_law
