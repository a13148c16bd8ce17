use Rattle.std.proofs.Common.{rules, ◌≡◌, true, false, option_map}
use Rattle.fluid_tasks.specs.Past.{is_text, first}
use Rattle.fluid_tasks.specs.Kept.{at, entries_at}
use Rattle.fluid_tasks.proofs.Calls.{finish_nothing, finish_keeps}
use Rattle.fluid_tasks.proofs.tasks.Tasks.finish.Goals as goal

pub returns-then-not-is_holder-clause-behind : goal.returns-then-not-is_holder-clause-behind
returns-then-not-is_holder-clause-behind c = λ m past is numbered kept.
    let not : is_text (option_map (λ e. e.1) (first (entries_at (at c.args.self.now.tasks c.args.task.now)))) c.args.client.now ≡ false = search rules in
    finish_nothing m past numbered c.args.client.now c.args.task.now is c.args.self.now.items c.args.self.now.queues c.args.self.now.tasks c.args.self.now.clients not kept

pub returns-clause-behind : goal.returns-clause-behind
returns-clause-behind c = λ m past is numbered kept.
    let own : is_text (option_map (λ e. e.1) (first (entries_at (at c.args.self.now.tasks c.args.task.now)))) c.args.client.now ≡ true = search rules in
    finish_keeps m past numbered c.args.client.now c.args.task.now is c.args.self.now.items c.args.self.now.queues c.args.self.now.tasks c.clear.new.tasks c.args.self.now.clients own c.clear.ensures kept
