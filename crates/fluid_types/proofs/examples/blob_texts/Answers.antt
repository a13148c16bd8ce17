use Rattle.fluid_types.proofs.Quorums.{blob_texts}
use Rattle.fluid_types.proofs.examples.blob_texts.Goals as goal

pub returns : goal.returns
returns c = blob_texts
