use Rattle.std.proofs.Common.{◌∙◌, ap, ap₂, sym}
use Rattle.fluid_tasks.specs.declared.acts.Act.TheVariants.{Acquire, Complete, Release, Volunteer, Abandon, Finish}
use Rattle.fluid_tasks.specs.Acts.{Does}
use Rattle.fluid_tasks.proofs.Names.{on_ok, on_err}
use Rattle.fluid_tasks.proofs.tasks.Tasks.perform.Goals as goal

pub returns-in-Add-clause-behind : goal.returns-in-Add-clause-behind
returns-in-Add-clause-behind c =
    on_ok c.add.result (λ h. λ m past is. h c.args.client.now m past (is ∙ ap (λ act. Does c.args.client.now act) c.in-Add.is)) c.add.ensures.behind

pub returns-in-Add-clause-still : goal.returns-in-Add-clause-still
returns-in-Add-clause-still c =
    on_err c.add.result (λ h. λ m past is. h c.args.client.now m past (is ∙ ap (λ act. Does c.args.client.now act) c.in-Add.is)) c.add.ensures.still

pub returns-in-Acquire-clause-behind : goal.returns-in-Acquire-clause-behind
returns-in-Acquire-clause-behind c =
    on_ok c.acquire.result
    (λ h. λ m past is number. h m past (is ∙ ap (λ act. Does c.args.client.now act) c.in-Acquire.is ∙ ap (λ q. Does c.args.client.now (Acquire q)) (sym c.as_str.ensures.bytes)))
    c.acquire.ensures.behind

pub returns-in-Acquire-clause-still : goal.returns-in-Acquire-clause-still
returns-in-Acquire-clause-still c =
    on_err c.acquire.result
    (λ h. λ m past is number. h m past (is ∙ ap (λ act. Does c.args.client.now act) c.in-Acquire.is ∙ ap (λ q. Does c.args.client.now (Acquire q)) (sym c.as_str.ensures.bytes)))
    c.acquire.ensures.still

pub returns-in-Complete-clause-behind : goal.returns-in-Complete-clause-behind
returns-in-Complete-clause-behind c = λ m past is number.
    c.complete.ensures.behind m past
    (is ∙ ap (λ act. Does c.args.client.now act) c.in-Complete.is ∙ ap₂ (λ w q. Does w (Complete q c.in-Complete.item)) (sym c.as_str-id.ensures.bytes) (sym c.as_str-in-Complete.ensures.bytes))

pub returns-in-Release-clause-behind : goal.returns-in-Release-clause-behind
returns-in-Release-clause-behind c = λ m past is number.
    c.release.ensures.behind m past
    (is ∙ ap (λ act. Does c.args.client.now act) c.in-Release.is ∙ ap₂ (λ w q. Does w (Release q c.in-Release.item)) (sym c.as_str-id.ensures.bytes) (sym c.as_str-in-Release.ensures.bytes))

pub returns-in-Volunteer-clause-behind : goal.returns-in-Volunteer-clause-behind
returns-in-Volunteer-clause-behind c =
    on_ok c.volunteer.result
    (λ h. λ m past is. h m past (is ∙ ap (λ act. Does c.args.client.now act) c.in-Volunteer.is ∙ ap (λ t. Does c.args.client.now (Volunteer t)) (sym c.as_str-in-Volunteer.ensures.bytes)))
    c.volunteer.ensures.behind

pub returns-in-Volunteer-clause-still : goal.returns-in-Volunteer-clause-still
returns-in-Volunteer-clause-still c =
    on_err c.volunteer.result
    (λ h. λ m past is. h m past (is ∙ ap (λ act. Does c.args.client.now act) c.in-Volunteer.is ∙ ap (λ t. Does c.args.client.now (Volunteer t)) (sym c.as_str-in-Volunteer.ensures.bytes)))
    c.volunteer.ensures.still

pub returns-in-Abandon-clause-behind : goal.returns-in-Abandon-clause-behind
returns-in-Abandon-clause-behind c = λ m past is number.
    c.abandon.ensures.behind m past
    (is ∙ ap (λ act. Does c.args.client.now act) c.in-Abandon.is ∙ ap₂ (λ w t. Does w (Abandon t)) (sym c.as_str-id.ensures.bytes) (sym c.as_str-in-Abandon.ensures.bytes))

pub returns-in-Finish-clause-behind : goal.returns-in-Finish-clause-behind
returns-in-Finish-clause-behind c = λ m past is number.
    c.finish.ensures.behind m past
    (is ∙ ap (λ act. Does c.args.client.now act) c.in-Finish.is ∙ ap₂ (λ w t. Does w (Finish t)) (sym c.as_str-id.ensures.bytes) (sym c.as_str-in-Finish.ensures.bytes))
