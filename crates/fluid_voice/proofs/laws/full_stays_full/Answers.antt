use Rattle.fluid_voice.proofs.Fulls.{full_stays_full, full_goes_on}
use Rattle.fluid_voice.proofs.laws.full_stays_full.Goals as goal

pub returns : goal.returns
returns c = record { texts = full_stays_full; later = full_goes_on }
