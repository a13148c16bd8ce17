use Rattle.fluid_texts.proofs.Parsed.{texts_are_read}
use Rattle.fluid_texts.proofs.laws.texts_are_read.Goals as goal

pub returns : goal.returns
returns c = texts_are_read
