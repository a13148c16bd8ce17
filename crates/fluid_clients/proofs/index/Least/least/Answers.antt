use Rattle.std.proofs.Common.{sym, subst}
use Rattle.fluid_clients.specs.Rounds.{IsHeld}
use Rattle.fluid_clients.proofs.Without.{root-held, least-root}
use Rattle.fluid_clients.proofs.index.Least.least.Goals as goal

pub value_of-requires : goal.value_of-requires
value_of-requires g c =
    rw (c.deref.ensures.value, c.root.ensures) (root-held g.T.Rank.number c.self.inside.slots.items c.self.inside.rounds.items c.self.invariant)

pub returns : goal.returns
returns g c =
    rw (c.value_of.ensures, c.deref.ensures.value, c.root.ensures, ← c.self.view_is)
    (least-root g.T.Rank.number c.self.inside.slots.items c.self.inside.rounds.items c.self.invariant)
