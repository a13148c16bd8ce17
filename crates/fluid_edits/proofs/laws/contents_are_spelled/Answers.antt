use Rattle.fluid_edits.proofs.Spelled.{spelled_law}
use Rattle.fluid_edits.proofs.laws.contents_are_spelled.Goals as goal

pub returns : goal.returns
returns c = spelled_law
