use Rattle.std.proofs.Common.{sym, ◌∙◌}
use Rattle.fluid_clients.proofs.Seating.{count_of}
use Rattle.fluid_clients.proofs.table.Clients.count.Goals as goal

pub returns : goal.returns
returns c = rw (← c.self.view_is) (c.len.ensures ∙ c.self.inside.seats.ok.0 ∙ sym (count_of _ c.self.invariant.order))
