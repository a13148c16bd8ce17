use Rattle.std.proofs.Common.{rules, ◌≡◌, ◌∙◌, None, Some, sym}
use Rattle.fluid_tasks.specs.Past.{standing_since}
use Rattle.fluid_tasks.specs.Kept.{at, task_at}
use Rattle.fluid_tasks.proofs.Calls.{candidate_stands, not_noted}
use Rattle.fluid_tasks.proofs.tasks.Tasks.is_candidate.Goals as goal

pub returns-in-Some : goal.returns-in-Some
returns-in-Some c = λ past numbered kept.
    let noted : task_at (at c.args.self.now.clients c.args.client.now) c.args.task.now ≡ Some c.in-Some.since = search rules in
    c.stands_since.ensures
    ∙ candidate_stands past numbered c.args.task.now c.args.client.now c.in-Some.since (at c.args.self.now.tasks c.args.task.now) (kept.tasks_are c.args.task.now) (λ n h. sym noted ∙ kept.stands c.args.client.now c.args.task.now n h)

pub returns-in-None : goal.returns-in-None
returns-in-None c = λ past numbered kept.
    let none : task_at (at c.args.self.now.clients c.args.client.now) c.args.task.now ≡ None = search rules in
    not_noted (standing_since past c.args.task.now c.args.client.now) (λ n h. sym none ∙ kept.stands c.args.client.now c.args.task.now n h)
