use Rattle.std.proofs.Common.{◌∙◌, ap}
use Rattle.fluid_tasks.specs.Past.{past_of}
use Rattle.fluid_tasks.specs.Kept.{at, free_at}
use Rattle.fluid_tasks.proofs.Answered.{free_answer}
use Rattle.fluid_tasks.proofs.tasks.Tasks.free.Goals as goal

pub returns-in-Some : goal.returns-in-Some
returns-in-Some c = λ messages stands.
    c.free.ensures ∙ ap free_at c.in-Some.ensures.value ∙ free_answer (past_of messages) c.args.queue.now (at c.args.self.now.queues c.args.queue.now) (stands.keeps.queues_are c.args.queue.now)

pub returns-in-None : goal.returns-in-None
returns-in-None c = λ messages stands.
    ap free_at c.in-None.ensures.value ∙ free_answer (past_of messages) c.args.queue.now (at c.args.self.now.queues c.args.queue.now) (stands.keeps.queues_are c.args.queue.now)
