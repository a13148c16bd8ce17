use Rattle.std.proofs.Common.{refl, arith}
use Rattle.std.proofs.lemmas.Result.{err_from_is_err_and}
use Rattle.fluid_pipe.proofs.Advances.{hands_on, starts, takes}
use Rattle.fluid_pipe.proofs.Endings.{carry-failed, cut-ends, ended, failed-behind, no-failure, read-cause, read-on, stopped, write-cause, written-on}
use Rattle.fluid_pipe.proofs.flow.take_all.Goals as goal

pub loop-lines-init : goal.loop-lines-init
loop-lines-init g c = rw c.new-lines.ensures (
  record {
    quiet = record { read = refl; written = refl };
    counts = record { few = omega arith; within = c.requires.within };
  },
  g.met.T.Taker.follows_itself _,
  λ m stands. starts m _ _ _ _ stands c.requires.none,
)

pub loop-lines-preserved : goal.loop-lines-preserved
loop-lines-preserved g c =
    let i = c.loop-lines.invariant in
    let going = c.in_ok-take_next.was in (
      record {
        quiet = written-on _ _ _ _ _ (read-on _ _ _ _ _ i.0.quiet c.in_ok-take_next.ensures.quiet) c.in_ok-hand_on_if_many.ensures.cause;
        counts = rw c.if-branch.true at c.in_ok-take_next.ensures.counts refl;
      },
      g.met.T.Taker.follows_on _ _ _ i.1 c.in_ok-take_next.ensures.follows,
      λ m stands.
          let p = i.2 m stands in
          let taken = rw c.if-branch.true at (c.in_ok-take_next.ensures.steps m p.before p.gone p.reached) in
          hands_on m _ _ _ _ _ _ _ _ _ (takes m _ _ _ _ _ _ _ _ _ _ _ p taken) c.in_ok-hand_on_if_many.ensures.gone,
    )

pub returns-in_err-hand_on_if_many : goal.returns-in_err-hand_on_if_many
returns-in_err-hand_on_if_many g c =
    let i = c.loop-lines.invariant in
    let e = err_from_is_err_and c.from_residual-in_err-hand_on_if_many.result c.from_residual-in_err-hand_on_if_many.ensures.1 in
    let quiet = read-on _ _ _ _ _ i.0.quiet c.in_ok-take_next.ensures.quiet in
    rw (e.1, e.2) (record {
      cause = write-cause _ _ _ _ _ _ quiet c.in_err-hand_on_if_many.ensures.cause;
      follows = g.met.T.Taker.follows_on _ _ _ i.1 c.in_ok-take_next.ensures.follows;
      failed = no-failure _ _ _ _ c.in_err-hand_on_if_many.ensures.cause;
      failed_at = λ m stands. no-failure _ _ _ _ c.in_err-hand_on_if_many.ensures.cause;
      ends = λ m stands.
          let p = i.2 m stands in
          let taken = rw c.if-branch.true at (c.in_ok-take_next.ensures.steps m p.before p.gone p.reached) in
          cut-ends m _ _ _ _ _ _ (g.S.Source.seen c.take_next.new.input) _ _ _ (takes m _ _ _ _ _ _ _ _ _ _ _ p taken) c.in_err-hand_on_if_many.ensures.cause c.in_err-hand_on_if_many.ensures.cut;
    })

pub returns-in_err-take_next : goal.returns-in_err-take_next
returns-in_err-take_next g c =
    let i = c.loop-lines.invariant in
    let e = err_from_is_err_and c.from_residual.result c.from_residual.ensures.1 in
    rw (e.1, e.2) (record {
      cause = read-cause _ _ _ _ _ _ i.0.quiet c.in_err-take_next.ensures.quiet;
      follows = g.met.T.Taker.follows_on _ _ _ i.1 c.in_err-take_next.ensures.follows;
      failed = carry-failed _ _ (λ fault h. g.met.T.Taker.failed_on _ _ _ fault i.1 h) _ c.in_err-take_next.ensures.failed;
      failed_at = λ m stands.
          let p = i.2 m stands in
          failed-behind m _ (g.T.Taker.failed_at c.take_next.new.taker m) _ _ _ _ _ _ _ p (c.in_err-take_next.ensures.failed_at m p.before p.gone p.reached);
      ends = λ m stands.
          let p = i.2 m stands in
          stopped m _ _ _ _ _ c.take_next.new.lines _ _ _ _ _ _ p (c.in_err-take_next.ensures.steps m p.before p.gone p.reached);
    })

pub returns : goal.returns
returns g c =
    let i = c.loop-lines.invariant in
    record {
      cause = read-on _ _ _ _ _ i.0.quiet c.in_ok-take_next.ensures.quiet;
      follows = g.met.T.Taker.follows_on _ _ _ i.1 c.in_ok-take_next.ensures.follows;
      failed = tt;
      failed_at = λ m stands. tt;
      ends = λ m stands.
          let p = i.2 m stands in
          let ending = rw c.if-branch.false at (c.in_ok-take_next.ensures.steps m p.before p.gone p.reached) in
          ended m _ _ _ _ _ c.take_next.new.lines _ _ _ (g.S.Source.seen c.take_next.new.input) _ p ending;
    }
