use Rattle.std.proofs.Common.{take, arith}
use Rattle.fluid_callers.proofs.Tasked.{next_number, one_more, all_heard}
use Rattle.fluid_callers.proofs.tasking.tasks_behind.Goals as goal

pub loop-message-init : goal.loop-message-init
loop-message-init c = c.new-tasks.ensures

pub apply-requires : goal.apply-requires
apply-requires c =
    next_number c.args.messages.now c.loop-message.message-index c.message-item.result c.message-item.is c.loop-message-test.true c.loop-message.tasks c.requires c.loop-message.invariant

pub loop-message-preserved : goal.loop-message-preserved
loop-message-preserved c =
    one_more c.args.messages.now c.loop-message.message-index c.message-item.result c.message-item.is c.loop-message-test.true c.apply.new.self
    (c.in_ok-apply.ensures.applied (take c.loop-message.message-index c.args.messages.now) c.loop-message.invariant)

pub returns : goal.returns
returns c = all_heard c.loop-message.tasks c.args.messages.now c.loop-message.message-index (omega (arith, c.loop-message-test.false)) c.loop-message.invariant
