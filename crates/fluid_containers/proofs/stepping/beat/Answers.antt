use Rattle.std.proofs.Common.{ℕ, List, Err, refl}
use Rattle.std.proofs.lemmas.Result.{err_from_is_err_and}
use Rattle.fluid_steps.specs.declared.steps.Step.TheVariants as step
use Rattle.fluid_transcript.specs.World.{document}
use Rattle.fluid_transcript.specs.Containers as steps
use Rattle.fluid_transcript.specs.Transcript.{done}
use Rattle.fluid_desk.specs.declared.stop.Stop.TheVariants.{NoMemory}
use Rattle.fluid_desk.proofs.Honest.{may_want}
use Rattle.fluid_desk.proofs.Doing.{used_of, many_of, used_there}
use Rattle.fluid_containers.proofs.Ends.{links_desk, line_links, memory_links, stops_linking}
use Rattle.fluid_containers.proofs.OnDesk.{step_on, unstepped, never_away, used_stood, about_container, effect_of}
use Rattle.fluid_containers.proofs.stepping.beat.Goals as goal

pub lent-requires : goal.lent-requires
lent-requires g c = used_there c.args.lanes.now c.ready.new.lanes c.in_ok-document.document c.args.moment c.in-Ok-true.field-0 c.in-Ok-true.field-0-test c.in-Ok-true.ensures.readied

pub beat_lane-requires-clause-stood : goal.beat_lane-requires-clause-stood
beat_lane-requires-clause-stood g c = λ good.
    let r = c.in-Ok-true in
    used_stood g.good c.args.lanes.now c.ready.new.lanes c.in_ok-document.document c.args.moment c.lent.result.now c.requires.1.1.1.1.0
    (used_of c.args.lanes.now c.ready.new.lanes c.in_ok-document.document c.args.moment r.field-0 r.field-0-test r.ensures.readied) c.lent.ensures.value good

pub returns-in-Ok-true-clause-does : goal.returns-in-Ok-true-clause-does
returns-in-Ok-true-clause-does g c = λ w k good desk store sound at named holder.
    let r = c.in-Ok-true in
    let old = c.args.lanes.now in
    let name = c.in_ok-document.document in
    let d = document w name in
    step_on old c.ready.new.lanes w c.args.name.now name c.args.moment (step.Beat c.args.name.now) k (steps.beaten old.limits w d c.args.name.now k) c.lent.result.now c.beat_lane.new.lane c.args.objects.now c.beat_lane.new.objects
    c.args.holder.now c.beat_lane.new.holder c.beat_lane.result desk store sound at named holder c.in_ok-document.ensures
    (used_of old c.ready.new.lanes name c.args.moment r.field-0 r.field-0-test r.ensures.readied) r.ensures.limits c.lent.ensures.value (about_container w c.args.name.now k named)
    (effect_of w c.args.name.now k (steps.beaten old.limits w d c.args.name.now) named) (λ of stands held. c.beat_lane.ensures.does good old.limits w d k of store at stands held)

pub returns-in-Ok-true-clause-runs : goal.returns-in-Ok-true-clause-runs
returns-in-Ok-true-clause-runs g c = λ first steps run.
    links_desk first steps c.ready.new.lanes c.in_ok-document.document c.lent.result.now c.beat_lane.new.lane c.args.objects.now c.beat_lane.new.objects c.beat_lane.result (c.in-Ok-true.ensures.runs first steps run)
    c.lent.ensures.value c.lent.ensures.out c.beat_lane.ensures.runs

pub returns-in-Ok-true-clause-counts : goal.returns-in-Ok-true-clause-counts
returns-in-Ok-true-clause-counts g c = c.beat_lane.ensures.runs.counts

pub returns-in-Ok-false-clause-does : goal.returns-in-Ok-false-clause-does
returns-in-Ok-false-clause-does g c = λ w k good desk store sound at named holder.
    let r = c.in-Ok-false in
    let many = many_of c.args.lanes.now c.ready.new.lanes c.in_ok-document.document c.args.moment r.field-0 r.field-0-test r.ensures.readied in
    never_away c.args.lanes.now c.ready.new.lanes w c.args.name.now c.in_ok-document.document k c.args.holder.now many.0 desk sound named holder c.in_ok-document.ensures many.1

pub returns-in-Ok-false-clause-runs : goal.returns-in-Ok-false-clause-runs
returns-in-Ok-false-clause-runs g c = λ first steps run.
    line_links first steps c.ready.new.lanes c.args.objects.now c.args.objects.now _ c.beyond.result (c.in-Ok-false.ensures.runs first steps run) c.beyond.ensures

pub returns-clause-does : goal.returns-clause-does
returns-clause-does g c = λ w k good desk store sound at named holder.
    unstepped c.args.lanes.now.limits c.ready.new.lanes w c.args.name.now c.in_ok-document.document (step.Beat c.args.name.now) k c.args.holder.now c.in-Err.stop (about_container w c.args.name.now k named) holder c.in_ok-document.ensures
    (c.in-Err.ensures.honest w desk)

pub returns-clause-runs : goal.returns-clause-runs
returns-clause-runs g c = λ first steps run. stops_linking first steps c.args.objects.now c.args.objects.now c.ready.new.lanes c.in-Err.stop (c.in-Err.ensures.runs first steps run)

pub returns-in_err-document-clause-does : goal.returns-in_err-document-clause-does
returns-in_err-document-clause-does g c = λ w k good desk store sound at named holder.
    let e = err_from_is_err_and c.from_residual.result c.from_residual.ensures.1 in
    rw (e.1, e.2) (may_want (done c.args.lanes.now.limits w (step.Beat c.args.name.now)).world c.args.lanes.now NoMemory refl)

pub returns-in_err-document-clause-runs : goal.returns-in_err-document-clause-runs
returns-in_err-document-clause-runs g c = λ first steps run.
    let e = err_from_is_err_and c.from_residual.result c.from_residual.ensures.1 in
    rw (e.1, e.2) (memory_links {A = List ℕ} first steps c.args.lanes.now c.args.objects.now c.args.objects.now (Err NoMemory) run refl)
