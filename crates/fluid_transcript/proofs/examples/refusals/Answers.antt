use Rattle.fluid_transcript.proofs.LinesComputed.{refusals, beyond}
use Rattle.fluid_transcript.proofs.examples.refusals.Goals as goal

pub returns : goal.returns
returns c = record { refusals = refusals; beyond = beyond }
