use Rattle.fluid_readback.proofs.Fitting.{spelled_fit}
use Rattle.fluid_readback.proofs.laws.spelled_entries_fit.Goals as goal

pub returns : goal.returns
returns c = spelled_fit
