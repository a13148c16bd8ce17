use Rattle.fluid_quorum.proofs.Read.{only_blobs}
use Rattle.fluid_quorum.proofs.laws.only_blobs_are_read.Goals as goal

pub returns : goal.returns
returns c = only_blobs
