use Rattle.fluid_readback.proofs.Fitting.{leaves_fit}
use Rattle.fluid_voice.proofs.voices.leave.Goals as goal

pub returns-clause-fit : goal.returns-clause-fit
returns-clause-fit c = λ early. (tt, leaves_fit _ _ c.as_str-name.ensures.name early)
