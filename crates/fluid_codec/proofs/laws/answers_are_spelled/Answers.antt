use Rattle.fluid_codec.proofs.Spelled.{records_are_spelled, messages_are_spelled}
use Rattle.fluid_codec.proofs.Heard.{events_are_spelled}
use Rattle.fluid_codec.proofs.laws.answers_are_spelled.Goals as goal

pub returns : goal.returns
returns c = record { records = records_are_spelled; messages = messages_are_spelled; events = events_are_spelled }
