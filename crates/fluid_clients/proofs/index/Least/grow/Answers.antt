use Rattle.std.proofs.Common.{sym, subst}
use Rattle.fluid_clients.specs.Rounds.{IsTournament}
use Rattle.fluid_clients.proofs.Grown.{grown}
use Rattle.fluid_clients.proofs.index.Least.grow.Goals as goal

pub invariant_of-self-2 : goal.invariant_of-self-2
invariant_of-self-2 g c =
    let slots = c.self.inside.slots.items in
    let rounds = c.heighten.new.rounds.items in
    rw c.in_ok-push.ensures.items
    (grown g.T.Rank.number slots rounds (rw c.deref-2.ensures.value at c.heighten.ensures.tournament) (rw c.deref-2.ensures.value at c.in_ok-heighten.ensures.high))
