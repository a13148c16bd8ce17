use Rattle.std.proofs.lemmas.Result.{err_from_is_err_and}
use Rattle.fluid_session.proofs.Sent.{passes_nothing, sends_more, sends_prefix, sends_all}
use Rattle.fluid_session.proofs.sending.send_feed.Goals as goal

pub loop-event-init : goal.loop-event-init
loop-event-init g c = passes_nothing _

pub returns-in_err-send_event : goal.returns-in_err-send_event
returns-in_err-send_event g c =
    let e = err_from_is_err_and c.from_residual.result c.from_residual.ensures.1 in
    rw (e.1, e.2) (sends_prefix c.args.events.now c.loop-event.event-index c.event-item.result _ _ _ c.in_err-send_event.field-0.0 c.loop-event.invariant c.in_err-send_event.ensures)

pub loop-event-preserved : goal.loop-event-preserved
loop-event-preserved g c =
    sends_more c.args.events.now c.loop-event.event-index c.event-item.result _ _ _ c.loop-event-test.true c.event-item.is c.loop-event.invariant c.in_ok-send_event.ensures.passes

pub returns : goal.returns
returns g c = sends_all c.args.events.now c.loop-event.event-index _ _ c.loop-event.invariant c.loop-event-test.false
