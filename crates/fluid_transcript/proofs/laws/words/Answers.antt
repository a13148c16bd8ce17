use Rattle.fluid_transcript.proofs.Growing.{words_are_one}
use Rattle.fluid_transcript.proofs.laws.words.Goals as goal

pub returns : goal.returns
returns c = words_are_one
