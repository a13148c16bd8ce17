use Rattle.fluid_codec.proofs.ReadBack.{records_are_read_back, short_records_fit, messages_are_read_back}
use Rattle.fluid_codec.proofs.laws.printed_is_read_back.Goals as goal

pub returns : goal.returns
returns c = record { records = records_are_read_back; fit = short_records_fit; messages = messages_are_read_back }
