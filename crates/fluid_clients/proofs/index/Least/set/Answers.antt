use Rattle.std.proofs.Common.{◌≡◌, ◌<◌, Some, None, length, sym, ap, subst, set, ◌∙◌}
use Rattle.fluid_clients.specs.Rounds.{round_of, IsTournamentBut}
use Rattle.fluid_clients.proofs.Played.{read_round, put, round-there, leaf-there, leaf-held}
use Rattle.fluid_clients.proofs.index.Least.set.Goals as goal

pub put-requires : goal.put-requires
put-requires g c =
    let slots = c.self.inside.slots.items in
    let rounds = c.self.inside.rounds.items in
    let lt : c.args.slot < length slots = rw (← c.self.view_is) at c.requires in
    let there = round-there g.T.Rank.number slots rounds c.args.slot c.self.invariant.shape lt in
    subst (λ r. c.args.slot < length r) (sym (read_round rounds 0 c.index_mut-2.result.now there c.index_mut-2.ensures.value))
    (leaf-there g.T.Rank.number slots rounds c.args.slot c.self.invariant.shape lt)

pub replay-requires-clause-but : goal.replay-requires-clause-but
replay-requires-clause-but g c =
    let slots = c.self.inside.slots.items in
    let rounds = c.self.inside.rounds.items in
    let lt : c.args.slot < length slots = rw (← c.self.view_is) at c.requires in
    let there = round-there g.T.Rank.number slots rounds c.args.slot c.self.invariant.shape lt in
    let written : set rounds 0 c.put.new.self ≡ put rounds 0 c.args.slot (Some c.args.slot) =
    ap (set rounds 0) (c.put.ensures ∙ ap (λ r. set r c.args.slot (Some c.args.slot)) (read_round rounds 0 c.index_mut-2.result.now there c.index_mut-2.ensures.value)) in
    subst (λ s. IsTournamentBut g.T.Rank.number s (set rounds 0 c.put.new.self) c.args.slot 1) (sym c.deref.ensures.value)
    (subst (λ r. IsTournamentBut g.T.Rank.number (set slots c.args.slot (Some c.args.value)) r c.args.slot 1) (sym written)
    (leaf-held g.T.Rank.number slots rounds c.args.slot c.self.invariant lt c.args.value))
