use Rattle.std.proofs.Common.{take}
use Rattle.fluid_session.specs.Sending.{Passes, out_texts}
use Rattle.fluid_session.proofs.sending.send_feed.Given as goal

abbrev pub invariant-loop-event : goal.invariant-loop-event
invariant-loop-event g l = Passes (out_texts (take l.event-index l.events)) (g.W.Wire.seen l.fn.wire) (g.W.Wire.seen l.wire)
