use Rattle.fluid_readback.proofs.Messages.{messages_of_are_read_back, sequenced_are_read_back}
use Rattle.fluid_readback.proofs.laws.messages_are_read_back.Goals as goal

pub returns : goal.returns
returns c = record { messages = messages_of_are_read_back; ledgers = sequenced_are_read_back }
