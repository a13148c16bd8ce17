use Rattle.fluid_service.proofs.Standings.{nothing_shelf}
use Rattle.fluid_service.proofs.shelf.Shelf.new.Goals as goal

pub invariant_of-result : goal.invariant_of-result
invariant_of-result g c = rw c.new.ensures (nothing_shelf (g.B.Shelves.seen c.args.shelves) c.args.limits c.requires.whole c.requires.kept c.requires.small, c.requires.give)
