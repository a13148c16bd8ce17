use Rattle.fluid_voice.proofs.Fit.{heard_fits}
use Rattle.fluid_voice.proofs.laws.what_is_heard_fits.Goals as goal

pub returns : goal.returns
returns c = heard_fits
