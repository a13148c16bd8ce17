use Rattle.std.proofs.Common.{take}
use Rattle.fluid_tasks.specs.Kept.{StandsFor}
use Rattle.fluid_callers.proofs.tasking.tasks_behind.Given as goal

-- so many messages were applied
abbrev pub invariant-loop-message : goal.invariant-loop-message
invariant-loop-message l = StandsFor l.tasks (take l.message-index l.messages)
