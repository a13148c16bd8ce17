use Rattle.fluid_tasks.proofs.Computed.{text_is_spelled}
use Rattle.fluid_tasks.proofs.examples.text_is_spelled.Goals as goal

pub returns : goal.returns
returns c = text_is_spelled
