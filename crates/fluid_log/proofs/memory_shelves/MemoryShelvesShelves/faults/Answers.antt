use Rattle.fluid_log.proofs.Covering.{covers}
use Rattle.fluid_log.proofs.memory_shelves.MemoryShelvesShelves.faults.Goals as goal

pub returns-clause-covered : goal.returns-clause-covered
returns-clause-covered c = rw (← c.self.view_is) (covers _ c.self.inside.plan _ c.self.invariant)
