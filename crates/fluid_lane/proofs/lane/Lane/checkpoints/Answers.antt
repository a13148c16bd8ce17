use Rattle.std.proofs.Common.{subst}
use Rattle.fluid_log.specs.Keeping.{IsSized}
use Rattle.fluid_lane.proofs.lane.Lane.checkpoints.Goals as goal

pub returns-clause-sized : goal.returns-clause-sized
returns-clause-sized g c = subst (λ s. IsSized s.keeping) c.self.view_is (g.K.Keeper.sized c.self.inside.keeper)
