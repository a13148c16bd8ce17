use Rattle.fluid_types.proofs.Quorums.{proposed_as_text}
use Rattle.fluid_types.proofs.examples.proposed_as_text.Goals as goal

pub returns : goal.returns
returns c = proposed_as_text
