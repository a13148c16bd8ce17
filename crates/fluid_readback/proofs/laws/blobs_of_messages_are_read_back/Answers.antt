use Rattle.fluid_readback.proofs.Quorums.{read_back}
use Rattle.fluid_readback.proofs.laws.blobs_of_messages_are_read_back.Goals as goal

pub returns : goal.returns
returns c = read_back c.blobs_are_read_back.ensures
