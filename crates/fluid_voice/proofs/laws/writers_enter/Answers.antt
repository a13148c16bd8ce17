use Rattle.fluid_voice.proofs.Entering.{writers_enter}
use Rattle.fluid_voice.proofs.laws.writers_enter.Goals as goal

pub returns : goal.returns
returns c = writers_enter
