use Rattle.fluid_map.proofs.Replays.{last_word_law}
use Rattle.fluid_map.proofs.laws.last_word_decides.Goals as goal

pub returns : goal.returns
returns c = last_word_law
