use Rattle.fluid_transcript.proofs.LinesComputed.{hears, collects}
use Rattle.fluid_transcript.proofs.examples.connections.Goals as goal

pub returns : goal.returns
returns c = record { hears = hears; collects = collects }
