use Rattle.fluid_voice.proofs.Ahead.{next_stays_ahead, delivered_stays_ahead}
use Rattle.fluid_voice.proofs.laws.next_stays_ahead.Goals as goal

pub returns : goal.returns
returns c = record { acts = next_stays_ahead; delivered = delivered_stays_ahead }
