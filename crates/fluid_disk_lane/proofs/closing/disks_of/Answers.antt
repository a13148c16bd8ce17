use Rattle.std.proofs.Common.{ℕ, List, subst}
use Rattle.fluid_io.specs.Causes.{Tells}
use Rattle.fluid_log.specs.Keeping.{Keeping}
use Rattle.fluid_lane.specs.Steps.{ledger}
use Rattle.fluid_disk_lane.specs.Entered.{HoldsEntered}
use Rattle.fluid_disk_lane.proofs.Entered.{all_hold}
use Rattle.fluid_disk_lane.proofs.closing.disks_of.Goals as goal

pub returns : goal.returns
returns g c l stands =
    subst (λ (k : Keeping). Tells k.content (λ _. (image : List ℕ) → g.D.Disk.may_leave c.close-2.result.log image → HoldsEntered (ledger l) image)) c.close.ensures.keeper
    (all_hold _ _ (ledger l) (g.D.Disk.may_leave c.close-2.result.log) (c.close.ensures.kept l stands) c.close-2.ensures.crash)
