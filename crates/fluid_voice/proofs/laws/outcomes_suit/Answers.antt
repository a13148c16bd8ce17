use Rattle.fluid_voice.proofs.Suiting.{outcomes_suit}
use Rattle.fluid_voice.proofs.laws.outcomes_suit.Goals as goal

pub returns : goal.returns
returns c = outcomes_suit
