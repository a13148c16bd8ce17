use Rattle.std.proofs.Common.{refl, sym, ap₂, ◌∙◌}
use Rattle.std.proofs.lemmas.Result.{err_from_is_err_and}
use Rattle.fluid_steps.specs.declared.steps.Step.TheVariants as step
use Rattle.fluid_transcript.specs.Transcript.{done}
use Rattle.fluid_desk.specs.declared.stop.Stop.TheVariants.{NoMemory}
use Rattle.fluid_desk.proofs.Honest.{may_want}
use Rattle.fluid_desk.proofs.Running.{run_more}
use Rattle.fluid_callers.specs.Reaching.{reached}
use Rattle.fluid_callers.proofs.Ends.{memory_hears}
use Rattle.fluid_callers.proofs.Sent.{sends_nowhere}
use Rattle.fluid_callers.proofs.sending.send.Goals as goal

pub returns-in-Ok-Some-clause-does : goal.returns-in-Ok-Some-clause-does
returns-in-Ok-Some-clause-does g c = λ w desk held sound is at.
    c.hear_at.ensures.does w c.args.text.now desk held sound is at c.in_ok-acts.ensures.asked (ap₂ reached (sym c.as_slice.ensures) (sym c.state.ensures) ∙ sym c.in-Ok-Some.ensures ∙ c.in-Ok-Some.field-0-is)

pub returns-in-Ok-None-clause-does : goal.returns-in-Ok-None-clause-does
returns-in-Ok-None-clause-does g c = λ w desk held sound is at.
    sends_nowhere c.args.lanes.now w c.args.name.now c.args.text.now c.args.moment c.args.voice.now c.hear_nowhere.new.voice c.in_ok-acts.acts (g.O.Objects.seen c.args.objects.now) c.hear_nowhere.result
    desk held sound is at c.in_ok-acts.ensures.asked (ap₂ reached (sym c.as_slice.ensures) (sym c.state.ensures) ∙ sym c.in-Ok-None.ensures ∙ c.in-Ok-None.field-0-is) c.hear_nowhere.ensures.says

pub returns-in-Ok-None-clause-runs : goal.returns-in-Ok-None-clause-runs
returns-in-Ok-None-clause-runs g c = λ first steps run.
    memory_hears first steps c.args.lanes.now (g.O.Objects.seen c.args.objects.now) (g.O.Objects.seen c.args.objects.now) c.hear_nowhere.result run c.hear_nowhere.ensures.memory

pub returns-in-Err-clause-does : goal.returns-in-Err-clause-does
returns-in-Err-clause-does g c = λ w desk held sound is at. may_want (done c.args.lanes.now.limits w (step.Send c.args.name.now c.args.text.now)).world c.args.lanes.now NoMemory refl

pub returns-in-Err-clause-runs : goal.returns-in-Err-clause-runs
returns-in-Err-clause-runs g c = λ first steps run. let more = run_more first steps c.args.lanes.now run in record { shelves = more.shelves; few = more.few; ends = tt }

pub returns-in_err-acts-clause-does : goal.returns-in_err-acts-clause-does
returns-in_err-acts-clause-does g c = λ w desk held sound is at.
    let e = err_from_is_err_and c.from_residual.result c.from_residual.ensures.1 in
    rw (e.1, e.2) (may_want (done c.args.lanes.now.limits w (step.Send c.args.name.now c.args.text.now)).world c.args.lanes.now NoMemory refl)

pub returns-in_err-acts-clause-runs : goal.returns-in_err-acts-clause-runs
returns-in_err-acts-clause-runs g c = λ first steps run.
    let e = err_from_is_err_and c.from_residual.result c.from_residual.ensures.1 in
    let more = run_more first steps c.args.lanes.now run in
    rw (e.1, e.2) (record { shelves = more.shelves; few = more.few; ends = tt })
