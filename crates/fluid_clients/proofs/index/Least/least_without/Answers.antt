use Rattle.std.proofs.Common.{None, set}
use Rattle.fluid_clients.specs.Rounds.{IsHeld, IsBestWithout}
use Rattle.fluid_clients.proofs.Without.{without-held, least-without}
use Rattle.fluid_clients.proofs.index.Least.least_without.Goals as goal

pub value_of-requires : goal.value_of-requires
value_of-requires g c =
    rw c.deref-2.ensures.value
    (without-held g.T.Rank.number c.self.inside.slots.items c.args.slot c.winner_without-winner.result (rw c.deref.ensures.value at c.winner_without-winner.ensures.winner))

pub returns-clause-least : goal.returns-clause-least
returns-clause-least g c =
    rw (c.value_of.ensures, c.deref-2.ensures.value, ← c.self.view_is)
    (least-without g.T.Rank.number c.self.inside.slots.items c.args.slot c.winner_without-winner.result (rw c.deref.ensures.value at c.winner_without-winner.ensures.winner))
