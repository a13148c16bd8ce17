use Rattle.std.proofs.Common.{sym, subst}
use Rattle.fluid_disk.specs.Files.{Recording}
use Rattle.fluid_disk_keeper.specs.Growing.{OwesNoCut}
use Rattle.fluid_disk_keeper.proofs.growing.GrowingKeeperKeeper.store_checkpoint.Goals as goal

pub invariant_of-self : goal.invariant_of-self
invariant_of-self g c = subst (λ (f : Recording g.row.D.Denot). OwesNoCut g.D.Disk.seen g.D.Disk.may_leave f) (sym c.store_checkpoint.ensures.others.0) c.self.invariant
