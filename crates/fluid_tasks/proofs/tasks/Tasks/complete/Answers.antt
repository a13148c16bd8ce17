use Rattle.std.proofs.Common.{rules, ◌≡◌, true, false}
use Rattle.fluid_tasks.specs.Past.{is_text}
use Rattle.fluid_tasks.specs.Kept.{at, held_at}
use Rattle.fluid_tasks.proofs.Calls.{complete_nothing, complete_keeps}
use Rattle.fluid_tasks.proofs.tasks.Tasks.complete.Goals as goal

pub returns-then-not-is_held_by-clause-behind : goal.returns-then-not-is_held_by-clause-behind
returns-then-not-is_held_by-clause-behind c = λ m past is numbered kept.
    let not : is_text (held_at (at c.args.self.now.queues c.args.queue.now) c.args.item) c.args.client.now ≡ false = search rules in
    complete_nothing m past numbered c.args.client.now c.args.queue.now c.args.item is c.args.self.now.items c.args.self.now.queues c.args.self.now.tasks c.args.self.now.clients not kept

pub returns-clause-behind : goal.returns-clause-behind
returns-clause-behind c = λ m past is numbered kept.
    let own : is_text (held_at (at c.args.self.now.queues c.args.queue.now) c.args.item) c.args.client.now ≡ true = search rules in
    complete_keeps m past numbered c.args.client.now c.args.queue.now c.args.item is c.args.self.now.items c.remove.new.self c.args.self.now.queues c.finish.new.queues c.args.self.now.tasks c.args.self.now.clients c.forget_item.new.clients own
    c.remove.ensures.updates c.finish.ensures c.forget_item.ensures kept
