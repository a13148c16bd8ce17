use Rattle.fluid_service.proofs.Endings.{shelf_out}
use Rattle.fluid_service.proofs.shelf.Shelf.close.Goals as goal

pub close_all-requires-clause-out : goal.close_all-requires-clause-out
close_all-requires-clause-out g c = shelf_out _ c.self.invariant.0
