use Rattle.std.proofs.Common.{ℕ, List, Err, refl}
use Rattle.std.proofs.lemmas.Result.{err_from_is_err_and}
use Rattle.fluid_steps.specs.declared.steps.Step.TheVariants as step
use Rattle.fluid_transcript.specs.World.{document}
use Rattle.fluid_transcript.specs.Roamers as steps
use Rattle.fluid_transcript.specs.Transcript.{done}
use Rattle.fluid_desk.specs.declared.stop.Stop.TheVariants.{NoMemory}
use Rattle.fluid_desk.proofs.Honest.{may_want}
use Rattle.fluid_desk.proofs.Doing.{used_of, many_of, used_there}
use Rattle.fluid_callers.proofs.Ends.{reads_desk, stops_reading}
use Rattle.fluid_roamers.proofs.Desk.{step_on, unstepped, never_away, about_roamer, effect_of}
use Rattle.fluid_roamers.proofs.Reading.{line_reading, memory_reading}
use Rattle.fluid_roamers.specs.Taking.{IsSendable}
use Rattle.fluid_roamers.proofs.Roamed.{always}
use Rattle.fluid_roamers.proofs.stepping.back.Goals as goal

pub lent-requires : goal.lent-requires
lent-requires g c = used_there c.args.lanes.now c.ready.new.lanes c.in_ok-document.document c.args.moment c.in-Ok-true.field-0 c.in-Ok-true.field-0-test c.in-Ok-true.ensures.readied

pub returns-in-Ok-true-clause-does : goal.returns-in-Ok-true-clause-does
returns-in-Ok-true-clause-does g c = λ w k desk sound at named away roams.
    let r = c.in-Ok-true in
    let old = c.args.lanes.now in
    let name = c.in_ok-document.document in
    let d = document w name in
    step_on old c.ready.new.lanes w c.args.name.now name c.args.moment (step.Back c.args.name.now) k (steps.came_back old.limits w d c.args.name.now k) c.lent.result.now c.back_lane.new.lane
    c.args.roamer.now c.back_lane.new.roamer c.back_lane.result desk sound at named roams c.in_ok-document.ensures
    (used_of old c.ready.new.lanes name c.args.moment r.field-0 r.field-0-test r.ensures.readied) r.ensures.limits c.lent.ensures.value (about_roamer w c.args.name.now k named)
    (effect_of w c.args.name.now k (steps.came_back old.limits w d c.args.name.now) named) (λ of stands held. c.back_lane.ensures.does old.limits w d k of at stands away held)

pub returns-in-Ok-true-clause-runs : goal.returns-in-Ok-true-clause-runs
returns-in-Ok-true-clause-runs g c = λ first steps run.
    reads_desk first steps c.ready.new.lanes c.in_ok-document.document c.lent.result.now c.back_lane.new.lane c.back_lane.result (c.in-Ok-true.ensures.runs first steps run)
    c.lent.ensures.value c.lent.ensures.out c.back_lane.ensures.runs

pub returns-in-Ok-false-clause-does : goal.returns-in-Ok-false-clause-does
returns-in-Ok-false-clause-does g c = λ w k desk sound at named away roams.
    let r = c.in-Ok-false in
    let many = many_of c.args.lanes.now c.ready.new.lanes c.in_ok-document.document c.args.moment r.field-0 r.field-0-test r.ensures.readied in
    never_away c.args.lanes.now c.ready.new.lanes w c.args.name.now c.in_ok-document.document k c.args.roamer.now many.0 desk sound named roams c.in_ok-document.ensures many.1

pub returns-in-Ok-false-clause-runs : goal.returns-in-Ok-false-clause-runs
returns-in-Ok-false-clause-runs g c = λ first steps run. line_reading first steps c.ready.new.lanes _ c.beyond.result (c.in-Ok-false.ensures.runs first steps run) c.beyond.ensures

pub returns-clause-does : goal.returns-clause-does
returns-clause-does g c = λ w k desk sound at named away roams.
    unstepped c.args.lanes.now.limits c.ready.new.lanes w c.in_ok-document.document (step.Back c.args.name.now) k c.args.roamer.now c.in-Err.stop (about_roamer w c.args.name.now k named) roams c.in_ok-document.ensures
    (c.in-Err.ensures.honest w desk)

pub returns-clause-runs : goal.returns-clause-runs
returns-clause-runs g c = λ first steps run. stops_reading first steps c.ready.new.lanes c.in-Err.stop (c.in-Err.ensures.runs first steps run)

pub returns-in_err-document-clause-does : goal.returns-in_err-document-clause-does
returns-in_err-document-clause-does g c = λ w k desk sound at named away roams.
    let e = err_from_is_err_and c.from_residual.result c.from_residual.ensures.1 in
    rw (e.1, e.2) (may_want (done c.args.lanes.now.limits w (step.Back c.args.name.now)).world c.args.lanes.now NoMemory refl)

pub returns-in_err-document-clause-runs : goal.returns-in_err-document-clause-runs
returns-in_err-document-clause-runs g c = λ first steps run.
    let e = err_from_is_err_and c.from_residual.result c.from_residual.ensures.1 in
    rw (e.1, e.2) (memory_reading {A = List ℕ} first steps c.args.lanes.now (Err NoMemory) run refl)

pub returns-in-Ok-false-clause-kept : goal.returns-in-Ok-false-clause-kept
returns-in-Ok-false-clause-kept g c = always (IsSendable c.args.roamer.now.outbox) c.beyond.result c.requires.kept
