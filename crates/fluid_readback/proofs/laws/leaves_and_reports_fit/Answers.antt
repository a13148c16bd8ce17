use Rattle.fluid_readback.proofs.Fitting.{leaves_fit, reports_fit}
use Rattle.fluid_readback.proofs.laws.leaves_and_reports_fit.Goals as goal

pub returns : goal.returns
returns c = record { leaves = leaves_fit; reports = reports_fit }
