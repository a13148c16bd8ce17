use Rattle.fluid_transcript.proofs.ScriptComputed.{summarizes, scribes}
use Rattle.fluid_transcript.proofs.examples.putting.Goals as goal

pub returns : goal.returns
returns c = record { summarizes = summarizes; scribes = scribes }
