use Rattle.fluid_readback.proofs.Faults.{values_want_no_memory, records_want_no_memory, messages_want_no_memory, events_want_no_memory}
use Rattle.fluid_readback.proofs.laws.texts_want_no_memory.Goals as goal

pub returns : goal.returns
returns c = record { values = values_want_no_memory; records = records_want_no_memory; messages = messages_want_no_memory; events = events_want_no_memory }
