use Rattle.fluid_lane.proofs.Gated.{fires}
use Rattle.fluid_lane.proofs.laws.refusals_fire.Goals as goal

pub returns : goal.returns
returns c = fires
