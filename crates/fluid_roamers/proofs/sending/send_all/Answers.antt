use Rattle.std.proofs.Common.{None, Some, Ok, Err, refl, ◌∙◌}
use Rattle.std.proofs.lemmas.Result.{err_from_is_err_and}
use Rattle.fluid_roamers.proofs.Reading.{reads_both, reads_ok, reads_other, reads_wants}
use Rattle.fluid_roamers.proofs.Sendings.{sent_none, sent_more, all_sent, all_refused, all_stopped}
use Rattle.fluid_roamers.proofs.sending.send_all.Goals as goal

pub loop-init : goal.loop-init
loop-init g c = record {
  sent = λ limits w d k rest of at stands going is. sent_none limits w d k rest c.args.lane.now c.args.roamer.now of stands is;
  store = refl;
  runs = reads_ok c.args.lane.now tt;
  kept = c.requires.kept;
}

pub loop-preserved : goal.loop-preserved
loop-preserved g c = record {
  sent = λ limits w d k rest of at stands going is.
      let so = c.loop.invariant.sent limits w d k rest of at stands going is in
      sent_more limits w d k rest c.loop.lane c.send.new.lane c.loop.roamer c.send.new.roamer going so
      (rw c.in-Taken.is at (c.in_ok-sent.ensures.does limits w so.now k so.left so.stands at so.held going so.roams));
  store = c.in_ok-sent.ensures.store ∙ c.loop.invariant.store;
  runs = reads_other c.args.lane.now c.send.new.lane _ tt (reads_both c.args.lane.now c.loop.lane c.send.new.lane tt _ c.loop.invariant.runs c.in_ok-sent.ensures.runs);
  kept = c.in_ok-sent.ensures.kept;
}

pub returns-in-Nothing-clause-does : goal.returns-in-Nothing-clause-does
returns-in-Nothing-clause-does g c = λ limits w d k rest of at stands going is.
    let so = c.loop.invariant.sent limits w d k rest of at stands going is in
    so.on c.send.new.lane c.send.new.roamer (Ok None) (all_sent limits w so.now k so.left c.send.new.lane c.send.new.roamer going
    (rw c.in-Nothing.is at (c.in_ok-sent.ensures.does limits w so.now k so.left so.stands at so.held going so.roams)))

pub returns-in-Nothing-clause-store : goal.returns-in-Nothing-clause-store
returns-in-Nothing-clause-store g c = c.in_ok-sent.ensures.store ∙ c.loop.invariant.store

pub returns-in-Nothing-clause-runs : goal.returns-in-Nothing-clause-runs
returns-in-Nothing-clause-runs g c = reads_other c.args.lane.now c.send.new.lane _ _ (reads_both c.args.lane.now c.loop.lane c.send.new.lane tt _ c.loop.invariant.runs c.in_ok-sent.ensures.runs)

pub returns-in-Refused-clause-does : goal.returns-in-Refused-clause-does
returns-in-Refused-clause-does g c = λ limits w d k rest of at stands going is.
    let so = c.loop.invariant.sent limits w d k rest of at stands going is in
    so.on c.send.new.lane c.send.new.roamer (Ok (Some c.in-Refused.rule)) (all_refused limits w so.now k so.left c.send.new.lane c.send.new.roamer c.in-Refused.rule
    (rw c.in-Refused.is at (c.in_ok-sent.ensures.does limits w so.now k so.left so.stands at so.held going so.roams)))

pub returns-in-Refused-clause-store : goal.returns-in-Refused-clause-store
returns-in-Refused-clause-store g c = c.in_ok-sent.ensures.store ∙ c.loop.invariant.store

pub returns-in-Refused-clause-runs : goal.returns-in-Refused-clause-runs
returns-in-Refused-clause-runs g c = reads_other c.args.lane.now c.send.new.lane _ _ (reads_both c.args.lane.now c.loop.lane c.send.new.lane tt _ c.loop.invariant.runs c.in_ok-sent.ensures.runs)

pub returns-in_err-sent-clause-does : goal.returns-in_err-sent-clause-does
returns-in_err-sent-clause-does g c = λ limits w d k rest of at stands going is.
    let e = err_from_is_err_and c.from_residual.result c.from_residual.ensures.1 in
    let so = c.loop.invariant.sent limits w d k rest of at stands going is in
    rw (e.1, e.2) (so.on c.send.new.lane c.send.new.roamer (Err c.in_err-sent.field-0.0) (all_stopped limits w so.now k so.left c.send.new.lane c.send.new.roamer c.in_err-sent.field-0.0
    (c.in_err-sent.ensures.does limits w so.now k so.left so.stands at so.held going so.roams)))

pub returns-in_err-sent-clause-store : goal.returns-in_err-sent-clause-store
returns-in_err-sent-clause-store g c = c.in_err-sent.ensures.store ∙ c.loop.invariant.store

pub returns-in_err-sent-clause-runs : goal.returns-in_err-sent-clause-runs
returns-in_err-sent-clause-runs g c =
    let e = err_from_is_err_and c.from_residual.result c.from_residual.ensures.1 in
    rw (e.1, e.2) (reads_both c.args.lane.now c.loop.lane c.send.new.lane tt _ c.loop.invariant.runs
    (record { later = c.in_err-sent.ensures.runs.later; sides = c.in_err-sent.ensures.runs.sides; ends = c.in_err-sent.ensures.runs.ends }))

pub returns-clause-does : goal.returns-clause-does
returns-clause-does g c = λ limits w d k rest of at stands going is. tt

pub returns-clause-store : goal.returns-clause-store
returns-clause-store g c = c.loop.invariant.store

pub returns-clause-runs : goal.returns-clause-runs
returns-clause-runs g c = reads_wants c.args.lane.now c.loop.lane tt _ c.loop.invariant.runs refl
