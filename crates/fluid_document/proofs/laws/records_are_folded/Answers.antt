use Rattle.fluid_document.proofs.Foldings.{folded-kept}
use Rattle.fluid_document.proofs.laws.records_are_folded.Goals as goal

pub returns : goal.returns
returns c = folded-kept
