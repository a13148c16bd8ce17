use Rattle.fluid_voice.proofs.Computed.{objects}
use Rattle.fluid_voice.proofs.examples.objects.Goals as goal

pub returns : goal.returns
returns c = objects
