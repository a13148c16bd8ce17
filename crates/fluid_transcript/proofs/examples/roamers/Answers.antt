use Rattle.fluid_transcript.proofs.RoamComputed.{comes, says, returns as come_back, are_acked, refuses}
use Rattle.fluid_transcript.proofs.examples.roamers.Goals as goal

pub returns : goal.returns
returns c = record { comes = comes; says = says; returns = come_back; acks = are_acked; refuses = refuses }
