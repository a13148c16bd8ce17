use Rattle.std.proofs.Common.{rules, ◌≡◌, None, Some}
use Rattle.fluid_tasks.specs.Kept.{at, SameNames}
use Rattle.std.proofs.lemmas.Map.Text.{btree_map_updates_text}
use Rattle.fluid_tasks.proofs.Calls.{leave_nothing}
use Rattle.fluid_tasks.proofs.Left.{kept_left}
use Rattle.fluid_tasks.proofs.tasks.Tasks.dismiss.Goals as goal

pub returns-in_default-clause-behind : goal.returns-in_default-clause-behind
returns-in_default-clause-behind c = λ m past is numbered kept.
    let none : at c.args.self.now.clients c.args.client.now ≡ None = search rules in
    let same : SameNames c.args.self.now.clients c.remove.new.self = search rules in
    leave_nothing m past numbered c.args.client.now is c.args.self.now.items c.args.self.now.queues c.args.self.now.tasks c.args.self.now.clients c.remove.new.self none same kept

pub returns-clause-behind : goal.returns-clause-behind
returns-clause-behind c = λ m past is numbered kept.
    let own : at c.args.self.now.clients c.args.client.now ≡ Some c.in-Some.holdings = search rules in
    kept_left m past c.args.client.now is numbered c.args.self.now.items c.args.self.now.queues c.take_all_back.new.queues c.args.self.now.tasks c.step_down_everywhere.new.tasks c.args.self.now.clients c.remove.new.self c.in-Some.holdings own
    (λ e. btree_map_updates_text c.args.client.now c.args.self.now.clients c.remove.new.self None c.remove.ensures.updates e) c.take_all_back.ensures.sorted c.take_all_back.ensures.back c.step_down_everywhere.ensures kept
