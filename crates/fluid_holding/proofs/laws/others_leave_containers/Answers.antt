use Rattle.fluid_holding.proofs.Entered.{others_leave}
use Rattle.fluid_holding.proofs.laws.others_leave_containers.Goals as goal

pub returns : goal.returns
returns c = others_leave c.containers.ensures.stay
