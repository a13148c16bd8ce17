use Rattle.fluid_transcript.proofs.Steady.{containers_stay, nothing_was_taken, head_is_since_base}
use Rattle.fluid_transcript.proofs.laws.containers.Goals as goal

pub returns : goal.returns
returns c = record { stay = containers_stay; nothing_taken = nothing_was_taken; head = head_is_since_base c.orders_are_answered_in_turn.ensures }
