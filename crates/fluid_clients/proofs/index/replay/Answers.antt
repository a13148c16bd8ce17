use Rattle.std.proofs.Common.{◌≡◌, ◌≤◌, ◌<◌, ◌+◌, ◌*◌, ◌/◌, ◌-◌, suc, length, refl, sym, ap, subst, ◌∙◌, arith, set, length-set}
use Rattle.fluid_clients.specs.Rounds.{round_of, winner_of, IsTournamentBut, IsHeld}
use Rattle.fluid_clients.proofs.Played.{IsBelow, first-zero, climbed, read_round, read_node, put, lower-held, half-there, replayed, all_right, few_steps}
use Rattle.fluid_clients.proofs.index.replay.Goals as goal

pub play-winner-requires-clause-one : goal.play-winner-requires-clause-one
play-winner-requires-clause-one g c =
    let rounds = c.loop-round.rounds.items in
    let k = c.loop-round.round in
    let half = c.loop-round.node / 2 in
    let within : suc k < length rounds = omega (arith, c.loop-round-test.true, c.len-round-end.ensures, c.loop-round.invariant.1, c.args.rounds.now.ok.0) in
    let left = read_node rounds k (2 * half) (half + half) c.index.result.now c.at-one.result (omega (arith, within)) (omega arith) c.index.ensures c.at-one.ensures in
    subst (IsHeld c.args.slots.now) (sym left) (lower-held g.T.Rank.number c.args.slots.now rounds c.args.slot k c.loop-round.invariant.0 within (half + half))

pub play-winner-requires-clause-other : goal.play-winner-requires-clause-other
play-winner-requires-clause-other g c =
    let rounds = c.loop-round.rounds.items in
    let k = c.loop-round.round in
    let half = c.loop-round.node / 2 in
    let within : suc k < length rounds = omega (arith, c.loop-round-test.true, c.len-round-end.ensures, c.loop-round.invariant.1, c.args.rounds.now.ok.0) in
    let right = read_node rounds k (2 * half + 1) (suc (half + half)) c.index-in-loop-round.result.now c.at-other.result (omega (arith, within)) (omega arith) c.index-in-loop-round.ensures c.at-other.ensures in
    subst (IsHeld c.args.slots.now) (sym right) (lower-held g.T.Rank.number c.args.slots.now rounds c.args.slot k c.loop-round.invariant.0 within (suc (half + half)))

pub put-requires : goal.put-requires
put-requires g c =
    let rounds = c.loop-round.rounds.items in
    let k = c.loop-round.round in
    let half = c.loop-round.node / 2 in
    let within : suc k < length rounds = omega (arith, c.loop-round-test.true, c.len-round-end.ensures, c.loop-round.invariant.1, c.args.rounds.now.ok.0) in
    let there = half-there g.T.Rank.number c.args.slots.now rounds c.args.slot k c.loop-round.invariant.0 within c.loop-round.node half (omega arith) (omega arith) c.loop-round.invariant.2 c.requires.slot in
    let next : suc k ≡ k + 1 = omega arith in
    let same = read_round rounds (k + 1) c.index_mut.result.now (omega (arith, within)) c.index_mut.ensures.value in
    subst (λ r. half < length r) (sym (same ∙ ap (round_of rounds) (sym next))) there

pub loop-round-preserved : goal.loop-round-preserved
loop-round-preserved g c =
    let rounds = c.loop-round.rounds.items in
    let k = c.loop-round.round in
    let half = c.loop-round.node / 2 in
    let within : suc k < length rounds = omega (arith, c.loop-round-test.true, c.len-round-end.ensures, c.loop-round.invariant.1, c.args.rounds.now.ok.0) in
    let left = read_node rounds k (2 * half) (half + half) c.index.result.now c.at-one.result (omega (arith, within)) (omega arith) c.index.ensures c.at-one.ensures in
    let right = read_node rounds k (2 * half + 1) (suc (half + half)) c.index-in-loop-round.result.now c.at-other.result (omega (arith, within)) (omega arith) c.index-in-loop-round.ensures c.at-other.ensures in
    let next : suc k ≡ k + 1 = omega arith in
    let same = read_round rounds (k + 1) c.index_mut.result.now (omega (arith, within)) c.index_mut.ensures.value in
    let written : set rounds (k + 1) c.put.new.self ≡ put rounds (k + 1) half c.play-winner.result =
    ap (set rounds (k + 1)) (c.put.ensures ∙ ap (λ r. set r half c.play-winner.result) same) in
    let played = replayed g.T.Rank.number c.args.slots.now rounds c.args.slot k c.loop-round.invariant.0 within c.loop-round.node half (omega arith) (omega arith) c.loop-round.invariant.2 c.requires.slot
    c.at-one.result c.at-other.result c.play-winner.result left right c.play-winner.ensures.pick in (
      subst (λ r. IsTournamentBut g.T.Rank.number c.args.slots.now r c.args.slot (suc (k + 1))) (sym written)
          (subst (λ i. IsTournamentBut g.T.Rank.number c.args.slots.now (put rounds i half c.play-winner.result) c.args.slot (suc i)) next played),
      length-set rounds (k + 1) c.put.new.self ∙ c.loop-round.invariant.1,
      subst (λ i. IsBelow c.args.slot i half) next (climbed c.args.slot k c.loop-round.node half (omega arith) (omega arith) c.loop-round.invariant.2),
      omega (arith, c.loop-round.invariant.3, c.play-winner.ensures.cost),
    )

pub loop-round-init : goal.loop-round-init
loop-round-init g c =
    let at = first-zero c.args.slot in
    (c.requires.but, refl, (omega (arith, at), omega (arith, at)), omega arith)

pub returns : goal.returns
returns g c =
    let rounds = c.loop-round.rounds.items in
    let last : length rounds ≤ suc c.loop-round.round = omega (arith, c.loop-round-test.false, c.len-round-end.ensures, c.loop-round.invariant.1, c.args.rounds.now.ok.0) in
    record {
      played = all_right g.T.Rank.number c.args.slots.now rounds c.args.slot (suc c.loop-round.round) last c.loop-round.invariant.0;
      cost = few_steps (length c.args.slots.now) c.args.steps.now c.loop-round.steps rounds c.loop-round.invariant.0.shape (omega (arith, c.requires.slot))
          (omega (arith, c.loop-round.auto.round-end, c.len-round-end.ensures, c.loop-round.invariant.1, c.loop-round.invariant.3, c.args.rounds.now.ok.0));
    }
