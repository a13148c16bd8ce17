use Rattle.fluid_quorum.proofs.Back.{read_back}
use Rattle.fluid_quorum.proofs.laws.blobs_are_read_back.Goals as goal

pub returns : goal.returns
returns c = read_back
