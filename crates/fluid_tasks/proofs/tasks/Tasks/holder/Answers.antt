use Rattle.std.proofs.Common.{◌∙◌}
use Rattle.fluid_tasks.specs.Past.{past_of}
use Rattle.fluid_tasks.specs.Kept.{at}
use Rattle.fluid_tasks.proofs.Stood.{holder-entries}
use Rattle.fluid_tasks.proofs.tasks.Tasks.holder.Goals as goal

pub returns : goal.returns
returns c = λ messages stands. c.holder.ensures ∙ holder-entries (past_of messages) c.args.task.now (at c.args.self.now.tasks c.args.task.now) (stands.keeps.tasks_are c.args.task.now)
