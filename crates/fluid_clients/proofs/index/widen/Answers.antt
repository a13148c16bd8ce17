use Rattle.std.proofs.Common.{◌≡◌, ◌<◌, ◌+◌, ◌/◌, ◌≤◌, suc, length, refl, sym, ap, subst, ◌∙◌, arith, set, length-set}
use Rattle.fluid_clients.specs.Rounds.{first, round_of, IsWidened}
use Rattle.fluid_clients.proofs.Played.{IsBelow, first-zero, climbed, read_round}
use Rattle.fluid_clients.proofs.Grown.{kept, widened, rooms_next, refused}
use Rattle.fluid_clients.proofs.index.widen.Goals as goal

pub loop-round-init : goal.loop-round-init
loop-round-init g c =
    let at = first-zero (length c.args.slots.now) in
    (c.requires, refl, (omega (arith, at), omega (arith, at)), λ k lt. absurd (omega (arith, lt)))

pub loop-round-preserved : goal.loop-round-preserved
loop-round-preserved g c =
    let slots = c.args.slots.now in
    let rounds = c.loop-round.rounds.items in
    let k = c.loop-round.round in
    let new = c.widen.new.self in
    let there : k < length rounds = omega (arith, c.loop-round-test.true, c.len-round-end.ensures, c.loop-round.invariant.1, c.args.rounds.now.ok.0) in
    let same = read_round rounds k c.index_mut.result.now there c.index_mut.ensures.value in
    let wide = subst (λ r. IsWidened c.loop-round.node r new) same c.in_ok-widen.ensures.wide in
    let wider = widened g.T.Rank.number slots rounds c.loop-round.invariant.0 k c.loop-round.node there c.loop-round.invariant.2 new wide in
    let next : suc k ≡ k + 1 = omega arith in (
      wider.0,
      length-set rounds k new ∙ c.loop-round.invariant.1,
      subst (λ i. IsBelow (length slots) i (c.loop-round.node / 2)) next (climbed (length slots) k c.loop-round.node (c.loop-round.node / 2) (omega arith) (omega arith) c.loop-round.invariant.2),
      rooms_next rounds k there new (length slots) c.loop-round.invariant.3 wider.1,
    )

-- a round that couldn't be widened is as it was
pub returns-in_err-widen : goal.returns-in_err-widen
returns-in_err-widen g c =
    let rounds = c.loop-round.rounds.items in
    let k = c.loop-round.round in
    let there : k < length rounds = omega (arith, c.loop-round-test.true, c.len-round-end.ensures, c.loop-round.invariant.1, c.args.rounds.now.ok.0) in
    let same = read_round rounds k c.index_mut.result.now there c.index_mut.ensures.value in
    record {
      tournament = kept g.T.Rank.number c.args.slots.now rounds c.loop-round.invariant.0 k c.widen.new.self there (c.in_err-widen.ensures.unchanged ∙ same);
      wide = refused c.from_residual.result _ c.from_residual.ensures.0;
    }

pub returns : goal.returns
returns g c =
    record {
      tournament = c.loop-round.invariant.0;
      wide = λ k lt. c.loop-round.invariant.3 k (omega (arith, lt, c.loop-round-test.false, c.len-round-end.ensures, c.loop-round.invariant.1, c.args.rounds.now.ok.0));
    }
