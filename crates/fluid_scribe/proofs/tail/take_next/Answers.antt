use Rattle.std.proofs.Common.{sym}
use Rattle.fluid_scribe.proofs.Walked.{next-low, next-far, next-own}
use Rattle.fluid_scribe.proofs.tail.take_next.Goals as goal

pub returns-then-message-last-clause-next : goal.returns-then-message-last-clause-next
returns-then-message-last-clause-next c = sym (next-low c.args.quorum.now c.args.message.now _ c.number-last.ensures c.if-message-last.true)

pub returns-then-message-last-ne1-clause-next : goal.returns-then-message-last-ne1-clause-next
returns-then-message-last-ne1-clause-next c = sym (next-far c.args.quorum.now c.args.message.now _ c.number-last.ensures c.if-message-last-ne1.true)

pub returns-clause-next : goal.returns-clause-next
returns-clause-next c = rw (next-own c.args.quorum.now c.args.message.now _ c.number-last.ensures c.if-message-last.false c.if-message-last-ne1.false) c.apply.ensures.after
