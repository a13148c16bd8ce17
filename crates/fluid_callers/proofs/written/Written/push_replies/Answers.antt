use Rattle.std.proofs.Common.{arith, ap, ◌∙◌, map, ◌++◌}
use Rattle.std.proofs.lemmas.List.{take_all}
use Rattle.fluid_transcript.specs.Lines.{reply_line}
use Rattle.fluid_transcript.specs.Transcript.{written}
use Rattle.fluid_callers.proofs.Bytes.{nothing_more, reply_more}
use Rattle.fluid_callers.proofs.written.Written.push_replies.Goals as goal

pub loop-reply-init : goal.loop-reply-init
loop-reply-init c = nothing_more c.args.self.now

pub loop-reply-preserved : goal.loop-reply-preserved
loop-reply-preserved c =
    reply_more c.args.name.now c.args.replies.now c.loop-reply.reply-index c.reply-item.result c.args.self.now c.loop-reply.self c.push_reply.new.self c.loop-reply-test.true c.reply-item.is c.loop-reply.invariant c.in_ok-push_reply.ensures

pub returns : goal.returns
returns c =
    c.loop-reply.invariant
    ∙ ap (λ replies. c.args.self.now ++ written (map (reply_line c.args.name.now) replies)) (take_all c.loop-reply.reply-index c.args.replies.now (omega (arith, c.loop-reply-test.false)))
