use Rattle.std.proofs.Common.{take}
use Rattle.fluid_session.specs.Sending.{Passes, out_texts}
use Rattle.fluid_session.proofs.sending.send_all.Given as goal

abbrev pub invariant-loop-reply : goal.invariant-loop-reply
invariant-loop-reply g l = Passes (out_texts (take l.reply-index l.replies)) (g.W.Wire.seen l.fn.wire) (g.W.Wire.seen l.wire)
