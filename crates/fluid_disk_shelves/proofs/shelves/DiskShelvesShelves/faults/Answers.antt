use Rattle.fluid_disk_shelves.proofs.Covering.{covers}
use Rattle.fluid_disk_shelves.proofs.shelves.DiskShelvesShelves.faults.Goals as goal

pub returns-clause-covered : goal.returns-clause-covered
returns-clause-covered g c = rw (← c.self.view_is) (covers g.D.Disk.seen g.D.Disk.tells _ _ c.self.invariant)
