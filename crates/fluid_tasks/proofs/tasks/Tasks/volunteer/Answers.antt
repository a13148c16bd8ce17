use Rattle.std.proofs.Common.{◌≡◌, ◌∙◌, true, false, Some, ap, sym, subst}
use Rattle.std.specs.Prelude.{is_some}
use Rattle.fluid_tasks.specs.Past.{standing_since}
use Rattle.fluid_tasks.specs.Kept.{Changes, WithCandidate, NotesTask}
use Rattle.fluid_tasks.proofs.Names.{on_ok, on_err, when_err}
use Rattle.fluid_tasks.proofs.Applied.{noted_kept}
use Rattle.fluid_tasks.proofs.Calls.{volunteer_nothing, volunteer_keeps, made_task_keeps, noted_task_keeps}
use Rattle.fluid_tasks.proofs.tasks.Tasks.volunteer.Goals as goal

pub returns-then-is_candidate-clause-behind : goal.returns-then-is_candidate-clause-behind
returns-then-is_candidate-clause-behind c = λ m past is number numbered kept.
    let stands : is_some (standing_since past c.args.task.now c.args.client.now) ≡ true =
    ap (λ w. is_some (standing_since past c.args.task.now w)) (sym c.as_str-id.ensures.bytes) ∙ sym (c.is_candidate.ensures past numbered.1 kept) ∙ c.if-is_candidate.true in
    volunteer_nothing m past numbered c.args.client.now c.args.task.now is stands c.args.self.now.items c.args.self.now.queues c.args.self.now.tasks c.args.self.now.clients kept

pub returns-clause-behind : goal.returns-clause-behind
returns-clause-behind c =
    on_ok c.stand.result
    (λ gives. λ m past is number numbered kept.
    let none : is_some (standing_since past c.args.task.now c.args.client.now) ≡ false =
    ap (λ w. is_some (standing_since past c.args.task.now w)) (sym c.as_str-id.ensures.bytes) ∙ sym (c.is_candidate.ensures past numbered.1 kept) ∙ c.if-is_candidate.false in
    let notes = subst (λ n. NotesTask c.args.client.now c.args.task.now (Some n) c.args.self.now.clients c.note_task.new.clients) (sym number)
    (subst (λ w. NotesTask w c.args.task.now (Some c.args.number) c.args.self.now.clients c.note_task.new.clients) c.as_str-id.ensures.bytes c.in_ok-note_task.ensures.noted) in
    let stands = subst (λ n. Changes (WithCandidate n c.args.client.now) c.args.task.now c.make_task.new.tasks c.stand.new.tasks) (sym number)
    (subst (λ w. Changes (WithCandidate c.args.number w) c.args.task.now c.make_task.new.tasks c.stand.new.tasks) c.in_ok-own.ensures gives) in
    volunteer_keeps m past numbered c.args.client.now c.args.task.now is none c.args.self.now.items c.args.self.now.queues c.args.self.now.tasks c.make_task.new.tasks c.stand.new.tasks c.args.self.now.clients c.note_task.new.clients
    c.make_task.ensures.kept c.in_ok-make_task.ensures.made notes stands kept)
    c.stand.ensures.stands

pub returns-clause-still : goal.returns-clause-still
returns-clause-still c =
    on_err c.stand.result
    (λ same. λ m past is number numbered kept.
    let none : is_some (standing_since past c.args.task.now c.args.client.now) ≡ false =
    ap (λ w. is_some (standing_since past c.args.task.now w)) (sym c.as_str-id.ensures.bytes) ∙ sym (c.is_candidate.ensures past numbered.1 kept) ∙ c.if-is_candidate.false in
    let notes = subst (λ w. NotesTask w c.args.task.now (Some c.args.number) c.args.self.now.clients c.note_task.new.clients) c.as_str-id.ensures.bytes c.in_ok-note_task.ensures.noted in
    noted_task_keeps m past numbered c.args.client.now c.args.task.now (Some c.args.number) none c.args.self.now.items c.args.self.now.queues c.make_task.new.tasks c.stand.new.tasks c.args.self.now.clients c.note_task.new.clients notes same
    (made_task_keeps m past numbered c.args.self.now.items c.args.self.now.queues c.args.self.now.tasks c.make_task.new.tasks c.args.self.now.clients c.make_task.ensures.kept kept))
    c.stand.ensures.unchanged

pub returns-in_err-make_task-clause-still : goal.returns-in_err-make_task-clause-still
returns-in_err-make_task-clause-still c = when_err c.from_residual.result (λ m past is number numbered kept.
    made_task_keeps m past numbered c.args.self.now.items c.args.self.now.queues c.args.self.now.tasks c.make_task.new.tasks c.args.self.now.clients c.make_task.ensures.kept kept)

pub returns-in_err-own-clause-still : goal.returns-in_err-own-clause-still
returns-in_err-own-clause-still c = when_err c.from_residual-in_err-own.result (λ m past is number numbered kept.
    made_task_keeps m past numbered c.args.self.now.items c.args.self.now.queues c.args.self.now.tasks c.make_task.new.tasks c.args.self.now.clients c.make_task.ensures.kept kept)

pub returns-in_err-note_task-clause-still : goal.returns-in_err-note_task-clause-still
returns-in_err-note_task-clause-still c = when_err c.from_residual-in_err-note_task.result (λ m past is number numbered kept.
    noted_kept c.args.self.now.items c.args.self.now.queues c.make_task.new.tasks c.args.self.now.clients c.note_task.new.clients past c.in_err-note_task.ensures.unchanged
    (made_task_keeps m past numbered c.args.self.now.items c.args.self.now.queues c.args.self.now.tasks c.make_task.new.tasks c.args.self.now.clients c.make_task.ensures.kept kept))
