use Rattle.std.proofs.lemmas.Result.{err_from_is_err_and}
use Rattle.fluid_session.proofs.Sent.{passes_nothing, sends_more, sends_prefix, sends_all}
use Rattle.fluid_session.proofs.sending.send_all.Goals as goal

pub loop-reply-init : goal.loop-reply-init
loop-reply-init g c = passes_nothing _

pub returns-in_err-send : goal.returns-in_err-send
returns-in_err-send g c =
    let e = err_from_is_err_and c.from_residual.result c.from_residual.ensures.1 in
    rw (e.1, e.2) (sends_prefix c.args.replies.now c.loop-reply.reply-index c.reply-item.result _ _ _ c.in_err-send.field-0.0 c.loop-reply.invariant c.in_err-send.ensures)

pub loop-reply-preserved : goal.loop-reply-preserved
loop-reply-preserved g c =
    sends_more c.args.replies.now c.loop-reply.reply-index c.reply-item.result _ _ _ c.loop-reply-test.true c.reply-item.is c.loop-reply.invariant c.in_ok-send.ensures.passes

pub returns : goal.returns
returns g c = sends_all c.args.replies.now c.loop-reply.reply-index _ _ c.loop-reply.invariant c.loop-reply-test.false
