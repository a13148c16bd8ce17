use Rattle.fluid_types.proofs.Quorums.{members_text}
use Rattle.fluid_types.proofs.examples.members_text.Goals as goal

pub returns : goal.returns
returns c = members_text
