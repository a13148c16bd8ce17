use Rattle.fluid_scribe.proofs.Handled.{answer_in-handle}
use Rattle.fluid_scribe.proofs.laws.handles_are_ids.Goals as goal

pub returns : goal.returns
returns c = answer_in-handle
