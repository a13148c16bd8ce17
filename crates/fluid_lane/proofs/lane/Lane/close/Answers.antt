use Rattle.std.proofs.Common.{List, subst}
use Rattle.fluid_io.specs.Causes.{Tells}
use Rattle.fluid_log.specs.Keeping.{IsSized}
use Rattle.fluid_lane.specs.declared.steps.Step.{Step}
use Rattle.fluid_lane.specs.Steps.{ledger}
use Rattle.fluid_lane.specs.Standing.{LaneStands, IsLeftFor}
use Rattle.fluid_lane.proofs.Stands.{left_for}
use Rattle.fluid_lane.proofs.lane.Lane.close.Goals as goal

pub returns-clause-left : goal.returns-clause-left
returns-clause-left g c =
    subst (λ s. (l : List Step) → LaneStands s l → Tells (g.K.Keeper.seen c.self.inside.keeper).content (IsLeftFor s.owed (ledger l))) c.self.view_is (λ l stands. left_for _ l c.self.invariant.few stands)

pub returns-clause-sized : goal.returns-clause-sized
returns-clause-sized g c = subst (λ s. IsSized s.keeping) c.self.view_is (g.K.Keeper.sized c.self.inside.keeper)
