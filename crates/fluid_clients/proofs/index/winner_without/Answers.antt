use Rattle.std.proofs.Common.{◌≡◌, ◌<◌, ◌+◌, ◌/◌, suc, refl, length, sym, ap, subst, arith, set, None}
use Rattle.fluid_clients.specs.Rounds.{first, winner_of, IsBest, IsHeld, IsPick}
use Rattle.fluid_clients.proofs.Winners.{best-held, held-without}
use Rattle.fluid_clients.proofs.Played.{IsBelow, first-zero, read_node, few_steps}
use Rattle.fluid_clients.proofs.Without.{best-first, beside-held, above, passed, best-last}
use Rattle.fluid_clients.proofs.index.winner_without.Goals as goal

pub play-winner-requires-clause-one : goal.play-winner-requires-clause-one
play-winner-requires-clause-one g c =
    held-without g.T.Rank.number c.args.slots.now c.args.slot c.loop-round.winner
    (best-held g.T.Rank.number (set c.args.slots.now c.args.slot None) (first c.loop-round.round c.loop-round.node) (first c.loop-round.round (suc c.loop-round.node)) c.loop-round.winner c.loop-round.invariant.0)

pub play-winner-requires-clause-other : goal.play-winner-requires-clause-other
play-winner-requires-clause-other g c =
    let rounds = c.args.rounds.now.items in
    let k = c.loop-round.round in
    let there : k < length rounds = omega (arith, c.loop-round-test.true, c.len-round-end.ensures, c.args.rounds.now.ok.0) in
    let other = read_node rounds k c.neighbour.result c.neighbour.result c.index.result.now c.at-other.result there refl c.index.ensures c.at-other.ensures in
    subst (IsHeld c.args.slots.now) (sym other)
    (beside-held g.T.Rank.number c.args.slots.now c.args.slot rounds k c.loop-round.node c.neighbour.result c.requires.tournament there c.loop-round.invariant.1 c.neighbour.ensures)

pub loop-round-init : goal.loop-round-init
loop-round-init g c =
    let at = first-zero c.args.slot in
    (best-first g.T.Rank.number c.args.slots.now c.args.slot c.requires.slot, (omega (arith, at), omega (arith, at)), omega arith)

pub loop-round-preserved : goal.loop-round-preserved
loop-round-preserved g c =
    let slots = c.args.slots.now in
    let rounds = c.args.rounds.now.items in
    let k = c.loop-round.round in
    let half = c.loop-round.node / 2 in
    let there : k < length rounds = omega (arith, c.loop-round-test.true, c.len-round-end.ensures, c.args.rounds.now.ok.0) in
    let other = read_node rounds k c.neighbour.result c.neighbour.result c.index.result.now c.at-other.result there refl c.index.ensures c.at-other.ensures in
    let pick = subst (λ b. IsPick g.T.Rank.number slots c.loop-round.winner b c.play-winner.result) other c.play-winner.ensures.pick in
    let next : suc k ≡ k + 1 = omega arith in
    let best =
    passed g.T.Rank.number slots c.args.slot rounds k c.loop-round.node c.neighbour.result c.requires.tournament there c.loop-round.invariant.1 c.neighbour.ensures c.loop-round.winner c.play-winner.result c.loop-round.invariant.0 pick in
    let below = above g.T.Rank.number slots c.args.slot rounds k c.loop-round.node c.neighbour.result c.requires.tournament there c.loop-round.invariant.1 c.neighbour.ensures in (
      subst (λ i. IsBest g.T.Rank.number (set slots c.args.slot None) (first i half) (first i (suc half)) c.play-winner.result) next best,
      subst (λ i. IsBelow c.args.slot i half) next below,
      omega (arith, c.loop-round.invariant.2, c.play-winner.ensures.cost),
    )

pub returns : goal.returns
returns g c =
    let slots = c.args.slots.now in
    let rounds = c.args.rounds.now.items in
    let some = c.requires.tournament.shape.some (omega (arith, c.requires.slot)) in
    let last : suc c.loop-round.round ≡ length rounds = omega (arith, some, c.loop-round-test.false, c.loop-round.auto.round-end, c.len-round-end.ensures, c.args.rounds.now.ok.0) in
    record {
      winner = best-last g.T.Rank.number slots c.args.slot rounds c.loop-round.round c.loop-round.node c.loop-round.winner c.requires.tournament.shape last c.requires.slot c.loop-round.invariant.1 c.loop-round.invariant.0;
      cost = few_steps (length slots) c.args.steps.now c.loop-round.steps rounds c.requires.tournament.shape (omega (arith, c.requires.slot))
          (omega (arith, last, c.loop-round.invariant.2));
    }
