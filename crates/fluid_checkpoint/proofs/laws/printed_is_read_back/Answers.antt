use Rattle.fluid_checkpoint.proofs.Back.{read_back, first_read}
use Rattle.fluid_checkpoint.proofs.laws.printed_is_read_back.Goals as goal

pub returns : goal.returns
returns c = record { second = read_back; first = first_read }
