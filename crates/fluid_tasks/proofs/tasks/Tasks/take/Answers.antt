use Rattle.std.proofs.Common.{rules, ◌≡◌, ◌∙◌, refl, ap, ap₂, sym, Some, None}
use Rattle.fluid_types.specs.Quorum.{left_by}
use Rattle.fluid_tasks.specs.Acts.{Leaves, done, act_of}
use Rattle.fluid_tasks.proofs.Names.{on_ok, on_err}
use Rattle.fluid_tasks.proofs.Calls.{says_left, says_done, kept_nothing}
use Rattle.fluid_tasks.proofs.tasks.Tasks.take.Goals as goal

pub returns-in-Some-clause-behind : goal.returns-in-Some-clause-behind
returns-in-Some-clause-behind c = λ past numbered kept.
    let own : left_by c.args.message.now ≡ Some c.in-Some.client = search rules in
    c.dismiss.ensures.behind c.args.message.now past (says_left c.args.message.now c.in-Some.client own ∙ ap Leaves (sym c.as_str.ensures)) numbered kept

pub returns-in_default-client-clause-behind : goal.returns-in_default-client-clause-behind
returns-in_default-client-clause-behind c = λ past numbered kept.
    let none : left_by c.args.message.now ≡ None = search rules in
    let nobody : c.args.message.now.client ≡ None = search rules in
    kept_nothing c.args.message.now past numbered (says_done c.args.message.now none ∙ ap (λ o. done o (act_of c.args.message.now)) nobody) _ _ _ _ kept

pub returns-in-Some-2-clause-behind : goal.returns-in-Some-2-clause-behind
returns-in-Some-2-clause-behind c = λ past numbered kept.
    let none : left_by c.args.message.now ≡ None = search rules in
    let own : c.args.message.now.client ≡ Some c.in-Some-client.client = search rules in
    let act : act_of c.args.message.now ≡ Some c.in-Some-2.act = search rules in
    on_ok c.perform.result (λ h. h c.args.message.now past (says_done c.args.message.now none ∙ ap₂ done own act) refl numbered kept) c.perform.ensures.behind

pub returns-in-Some-2-clause-still : goal.returns-in-Some-2-clause-still
returns-in-Some-2-clause-still c = λ past numbered kept.
    let none : left_by c.args.message.now ≡ None = search rules in
    let own : c.args.message.now.client ≡ Some c.in-Some-client.client = search rules in
    let act : act_of c.args.message.now ≡ Some c.in-Some-2.act = search rules in
    on_err c.perform.result (λ h. h c.args.message.now past (says_done c.args.message.now none ∙ ap₂ done own act) refl numbered kept) c.perform.ensures.still

pub returns-in-None-clause-behind : goal.returns-in-None-clause-behind
returns-in-None-clause-behind c = λ past numbered kept.
    let none : left_by c.args.message.now ≡ None = search rules in
    let own : c.args.message.now.client ≡ Some c.in-Some-client.client = search rules in
    let nothing : act_of c.args.message.now ≡ None = search rules in
    kept_nothing c.args.message.now past numbered (says_done c.args.message.now none ∙ ap₂ done own nothing) _ _ _ _ kept
