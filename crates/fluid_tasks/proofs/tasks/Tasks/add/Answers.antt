use Rattle.std.proofs.Common.{rules, ◌≡◌, true, None, Some, sym, subst, nat_cmp}
use Rattle.std.specs.Prelude.{is_some}
use Rattle.std.specs.BTreeMap.{UpdatesBy}
use Rattle.fluid_tasks.specs.declared.tasks.Item.{Item}
use Rattle.fluid_tasks.specs.Kept.{at, Changes, IsAdded, SameNames}
use Rattle.fluid_tasks.proofs.Names.{when_err}
use Rattle.fluid_tasks.proofs.Calls.{made_keeps, add_keeps, undone_keeps, same_items_keep}
use Rattle.fluid_tasks.proofs.tasks.Tasks.add.Goals as goal

pub returns-in_err-make_queue-clause-still : goal.returns-in_err-make_queue-clause-still
returns-in_err-make_queue-clause-still c = when_err c.from_residual.result (λ client m past is number numbered kept.
    made_keeps m past numbered c.args.self.now.items c.args.self.now.queues c.make_queue.new.queues c.args.self.now.tasks c.args.self.now.clients c.make_queue.ensures.kept kept)

pub returns-in_err-own-clause-still : goal.returns-in_err-own-clause-still
returns-in_err-own-clause-still c = when_err c.from_residual-in_err-own.result (λ client m past is number numbered kept.
    made_keeps m past numbered c.args.self.now.items c.args.self.now.queues c.make_queue.new.queues c.args.self.now.tasks c.args.self.now.clients c.make_queue.ensures.kept kept)

pub returns-in_err-insert-clause-still : goal.returns-in_err-insert-clause-still
returns-in_err-insert-clause-still c = when_err c.from_residual-in_err-insert.result (λ client m past is number numbered kept.
    same_items_keep m past numbered c.args.self.now.items c.insert.new.self c.make_queue.new.queues c.args.self.now.tasks c.args.self.now.clients c.in_err-insert.ensures.err
    (made_keeps m past numbered c.args.self.now.items c.args.self.now.queues c.make_queue.new.queues c.args.self.now.tasks c.args.self.now.clients c.make_queue.ensures.kept kept))

pub returns-clause-behind : goal.returns-clause-behind
returns-clause-behind c = λ client m past is number numbered kept.
    let it : Item = record { queue = c.in_ok-own.own; value = c.args.value } in
    let own : it.queue ≡ c.args.queue = search rules in
    let updates = subst (λ n. UpdatesBy nat_cmp (nat_cmp n) c.args.self.now.items c.insert.new.self (Some it)) (sym number) c.in_ok-insert.ensures.updates in
    let some = subst (λ q. is_some (at c.make_queue.new.queues q) ≡ true) c.as_str-name.ensures.bytes c.in_ok-make_queue.ensures.made in
    let changed = subst (λ n. Changes (IsAdded n) c.args.queue c.make_queue.new.queues c.add_to.new.queues) (sym number)
    (subst (λ q. Changes (IsAdded c.args.number) q c.make_queue.new.queues c.add_to.new.queues) c.as_str-name.ensures.bytes (let done : Changes (IsAdded c.args.number) c.as_str-name.result.now c.make_queue.new.queues c.add_to.new.queues = search rules in done)) in
    add_keeps m past numbered client c.args.queue it is own c.args.self.now.items c.insert.new.self c.args.self.now.queues c.make_queue.new.queues c.add_to.new.queues c.args.self.now.tasks c.args.self.now.clients
    updates c.make_queue.ensures.kept some changed kept

pub returns-in-Err-clause-still : goal.returns-in-Err-clause-still
returns-in-Err-clause-still c = λ client m past is number numbered kept.
    let it : Item = record { queue = c.in_ok-own.own; value = c.args.value } in
    let one = subst (λ n. UpdatesBy nat_cmp (nat_cmp n) c.args.self.now.items c.insert.new.self (Some it)) (sym number) c.in_ok-insert.ensures.updates in
    let two = subst (λ n. UpdatesBy nat_cmp (nat_cmp n) c.insert.new.self c.remove.new.self None) (sym number) c.remove.ensures.updates in
    let same : SameNames c.make_queue.new.queues c.add_to.new.queues = search rules in
    undone_keeps m past numbered it c.args.self.now.items c.insert.new.self c.remove.new.self c.make_queue.new.queues c.add_to.new.queues c.args.self.now.tasks c.args.self.now.clients one two same
    (made_keeps m past numbered c.args.self.now.items c.args.self.now.queues c.make_queue.new.queues c.args.self.now.tasks c.args.self.now.clients c.make_queue.ensures.kept kept)
