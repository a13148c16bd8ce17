use Rattle.fluid_loader.proofs.Replayed.{behind_channels}
use Rattle.fluid_loader.proofs.laws.messages_are_replayed.Goals as goal

pub returns : goal.returns
returns c = λ client container messages. behind_channels client container messages
