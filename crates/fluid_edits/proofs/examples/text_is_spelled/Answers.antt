use Rattle.fluid_edits.proofs.Spelled.{text_is_spelled}
use Rattle.fluid_edits.proofs.examples.text_is_spelled.Goals as goal

pub returns : goal.returns
returns c = text_is_spelled
