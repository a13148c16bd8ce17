use Rattle.std.proofs.Common.{rules, ◌≡◌, true, false}
use Rattle.fluid_tasks.specs.Past.{is_text}
use Rattle.fluid_tasks.specs.Kept.{at, held_at}
use Rattle.fluid_tasks.proofs.Calls.{release_nothing, release_keeps}
use Rattle.fluid_tasks.proofs.tasks.Tasks.release.Goals as goal

pub returns-then-not-is_held_by-clause-behind : goal.returns-then-not-is_held_by-clause-behind
returns-then-not-is_held_by-clause-behind c = λ m past is numbered kept.
    let not : is_text (held_at (at c.args.self.now.queues c.args.queue.now) c.args.item) c.args.client.now ≡ false = search rules in
    release_nothing m past numbered c.args.client.now c.args.queue.now c.args.item is c.args.self.now.items c.args.self.now.queues c.args.self.now.tasks c.args.self.now.clients not kept

pub returns-clause-behind : goal.returns-clause-behind
returns-clause-behind c = λ m past is numbered kept.
    let own : is_text (held_at (at c.args.self.now.queues c.args.queue.now) c.args.item) c.args.client.now ≡ true = search rules in
    release_keeps m past numbered c.args.client.now c.args.queue.now c.args.item is c.args.self.now.items c.args.self.now.queues c.take_back.new.queues c.args.self.now.tasks c.args.self.now.clients c.forget_item.new.clients own
    c.take_back.ensures c.forget_item.ensures kept
