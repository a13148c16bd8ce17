use Rattle.fluid_voice.proofs.Staying.{replies_are_no_events}
use Rattle.fluid_voice.proofs.laws.replies_are_no_events.Goals as goal

pub returns : goal.returns
returns c = replies_are_no_events
