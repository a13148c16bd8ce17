use Rattle.std.proofs.Common.{rules, ◌≡◌, true, None, Some, subst}
use Rattle.fluid_tasks.specs.Past.{first}
use Rattle.fluid_tasks.specs.Kept.{at, free_at, has_item, Changes, IsGiven}
use Rattle.fluid_tasks.proofs.Names.{on_ok, on_err, when_err}
use Rattle.fluid_tasks.proofs.Applied.{noted_kept}
use Rattle.fluid_tasks.proofs.Calls.{acquire_nothing, acquire_keeps, same_queue_keeps}
use Rattle.fluid_tasks.proofs.tasks.Tasks.acquire.Goals as goal

pub returns-in_default-clause-behind : goal.returns-in_default-clause-behind
returns-in_default-clause-behind c = λ m past is numbered kept.
    let none : first (free_at (at c.args.self.now.queues c.args.queue.now)) ≡ None = search rules in
    acquire_nothing m past numbered c.args.client.now c.args.queue.now is c.args.self.now.items c.args.self.now.queues c.args.self.now.tasks c.args.self.now.clients none kept

pub returns-clause-behind : goal.returns-clause-behind
returns-clause-behind c =
    on_ok c.give.result
    (λ gives. λ m past is numbered kept.
    let some : first (free_at (at c.args.self.now.queues c.args.queue.now)) ≡ Some c.in-Some.item = search rules in
    let noted = subst (λ w. has_item (at c.note_item.new.clients w) c.in-Some.item ≡ true) c.as_str.ensures.bytes c.in_ok-note_item.ensures.noted in
    let given = subst (λ w. Changes (IsGiven c.in-Some.item w) c.args.queue.now c.args.self.now.queues c.give.new.queues) c.in_ok-own.ensures gives in
    acquire_keeps m past numbered c.args.client.now c.args.queue.now c.in-Some.item is c.args.self.now.items c.args.self.now.queues c.give.new.queues c.args.self.now.tasks c.args.self.now.clients c.note_item.new.clients some
    c.note_item.ensures.kept noted given kept)
    c.give.ensures.given

pub returns-clause-still : goal.returns-clause-still
returns-clause-still c =
    on_err c.give.result
    (λ same. λ m past is numbered kept.
    same_queue_keeps m past numbered c.args.queue.now c.args.self.now.items c.args.self.now.queues c.give.new.queues c.args.self.now.tasks c.note_item.new.clients same
    (noted_kept c.args.self.now.items c.args.self.now.queues c.args.self.now.tasks c.args.self.now.clients c.note_item.new.clients past c.note_item.ensures.kept kept))
    c.give.ensures.unchanged

pub returns-in_err-note_item-clause-still : goal.returns-in_err-note_item-clause-still
returns-in_err-note_item-clause-still c = when_err c.from_residual.result (λ m past is numbered kept.
    noted_kept c.args.self.now.items c.args.self.now.queues c.args.self.now.tasks c.args.self.now.clients c.note_item.new.clients past c.note_item.ensures.kept kept)

pub returns-in_err-own-clause-still : goal.returns-in_err-own-clause-still
returns-in_err-own-clause-still c = when_err c.from_residual-in_err-own.result (λ m past is numbered kept.
    noted_kept c.args.self.now.items c.args.self.now.queues c.args.self.now.tasks c.args.self.now.clients c.note_item.new.clients past c.note_item.ensures.kept kept)
