use Rattle.fluid_types.proofs.Quorums.{are_no_proposals}
use Rattle.fluid_types.proofs.examples.are_no_proposals.Goals as goal

pub returns : goal.returns
returns c = are_no_proposals
