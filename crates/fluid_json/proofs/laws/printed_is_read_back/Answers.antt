use Rattle.std.proofs.Common.{arith}
use Rattle.fluid_json.proofs.ReadBack.{answers_itself}
use Rattle.fluid_json.proofs.laws.printed_is_read_back.Goals as goal

pub returns : goal.returns
returns c t canonical shallow = answers_itself 101 t canonical (omega arith) (omega arith)
