use Rattle.std.proofs.Common.{Some, None}
use Rattle.fluid_clients.proofs.Seating.{least-indexed}
use Rattle.fluid_clients.proofs.table.Clients.min.Goals as goal

pub returns-in-Some : goal.returns-in-Some
returns-in-Some c =
    rw (← c.self.view_is) (least-indexed c.self.inside.seats.items c.self.inside.index c.self.inside.free.items (Some c.in-Some.reference.now) c.self.invariant.order c.self.invariant.indexed c.in-Some.ensures)

pub returns-in-None : goal.returns-in-None
returns-in-None c =
    rw (← c.self.view_is) (least-indexed c.self.inside.seats.items c.self.inside.index c.self.inside.free.items None c.self.invariant.order c.self.invariant.indexed c.in-None.ensures)
