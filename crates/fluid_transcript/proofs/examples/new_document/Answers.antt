use Rattle.fluid_transcript.proofs.Computed.{new_document}
use Rattle.fluid_transcript.proofs.examples.new_document.Goals as goal

pub returns : goal.returns
returns c = new_document
