use Rattle.std.proofs.Common.{◌∙◌, ◌++◌, ◌∷◌, [], ap, codes}
use Rattle.json.specs.Token as token
use Rattle.fluid_json.specs.Tree.{object, members}
use Rattle.fluid_json.specs.Tokens.{tokens_of}
use Rattle.fluid_tasks.specs.Past.{past_of}
use Rattle.fluid_tasks.specs.Printed.{all_of}
use Rattle.fluid_tasks.specs.Shown.{queue_shown, task_shown, shown_in}
use Rattle.fluid_tasks.proofs.Texts.{all_tokens, queues_text, tasks_text, whole_text}
use Rattle.fluid_tasks.proofs.tasks.Tasks.print.Goals as goal

pub returns : goal.returns
returns c = λ messages stands.
    let queues_so = queues_text (past_of messages) stands.numbered c.args.self.now.queues c.in_ok-put_queues.ensures.ordered c.in_ok-put_queues.ensures.found stands.keeps.queues_are in
    let tasks_so = tasks_text (past_of messages) c.args.self.now.tasks c.in_ok-put_tasks.ensures.ordered c.in_ok-put_tasks.ensures.found stands.keeps.tasks_are in
    let own = shown_in queue_shown c.args.self.now.queues.entries in
    let others = shown_in task_shown c.args.self.now.tasks.entries in
    c.into_text.ensures (all_of own others)
    (c.in_ok-end_object.ensures.tokens
    ∙ ap (λ l. l ++ token.end_object ∷ [])
    (c.in_ok-put_tasks.ensures.tokens
    ∙ ap (λ l. l ++ tokens_of (object (members others)))
    (c.in_ok-key-2.ensures.tokens
    ∙ ap (λ l. l ++ token.key (codes "tasks") ∷ [])
    (c.in_ok-put_queues.ensures.tokens
    ∙ ap (λ l. l ++ tokens_of (object (members own)))
    (c.in_ok-key.ensures.tokens
    ∙ ap (λ l. l ++ token.key (codes "queues") ∷ [])
    (c.in_ok-begin_object.ensures.tokens ∙ ap (λ l. l ++ token.begin_object ∷ []) c.new-out.ensures.tokens)))))
    ∙ all_tokens [] (token.begin_object ∷ []) (token.key (codes "queues") ∷ []) (tokens_of (object (members own))) (token.key (codes "tasks") ∷ []) (tokens_of (object (members others))) (token.end_object ∷ []))
    ∙ whole_text (past_of messages) own others queues_so tasks_so
