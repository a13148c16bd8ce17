use Rattle.std.proofs.Common.{rules, ◌≡◌, None, Some}
use Rattle.fluid_tasks.specs.Kept.{at, task_at}
use Rattle.fluid_tasks.proofs.Calls.{abandon_nothing, abandon_keeps}
use Rattle.fluid_tasks.proofs.tasks.Tasks.abandon.Goals as goal

pub returns-in_default-clause-behind : goal.returns-in_default-clause-behind
returns-in_default-clause-behind c = λ m past is numbered kept.
    let none : task_at (at c.args.self.now.clients c.args.client.now) c.args.task.now ≡ None = search rules in
    abandon_nothing m past numbered c.args.client.now c.args.task.now is c.args.self.now.items c.args.self.now.queues c.args.self.now.tasks c.args.self.now.clients none kept

pub returns-clause-behind : goal.returns-clause-behind
returns-clause-behind c = λ m past is numbered kept.
    let noted : task_at (at c.args.self.now.clients c.args.client.now) c.args.task.now ≡ Some c.in-Some.since = search rules in
    abandon_keeps m past numbered c.args.client.now c.args.task.now c.in-Some.since is c.args.self.now.items c.args.self.now.queues c.args.self.now.tasks c.step_down_once.new.tasks c.args.self.now.clients c.forget_task.new.clients noted
    c.step_down_once.ensures c.forget_task.ensures kept
