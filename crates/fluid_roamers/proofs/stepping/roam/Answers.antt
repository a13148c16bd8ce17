use Rattle.std.proofs.Common.{refl}
use Rattle.fluid_steps.specs.declared.steps.Step.TheVariants as step
use Rattle.fluid_transcript.specs.World.{document}
use Rattle.fluid_desk.proofs.Doing.{used_of, many_of, used_there, may_unready}
use Rattle.fluid_callers.proofs.Ends.{reads_desk, stops_reading}
use Rattle.fluid_roamers.proofs.Desk.{roams_on, roams_away}
use Rattle.fluid_voice.specs.declared.refusals.ConnectRefusal.TheVariants.{TooManyDocuments}
use Rattle.fluid_roamers.proofs.Reading.{refused_kept, turned_reading}
use Rattle.fluid_roamers.proofs.stepping.roam.Goals as goal

pub lent-requires : goal.lent-requires
lent-requires g c = used_there c.args.lanes.now c.ready.new.lanes c.args.document.now c.args.moment c.in-Ok-true.field-0 c.in-Ok-true.field-0-test c.in-Ok-true.ensures.readied

pub returns-in-Ok-true-clause-does : goal.returns-in-Ok-true-clause-does
returns-in-Ok-true-clause-does g c = λ w desk sound at none.
    let r = c.in-Ok-true in
    let old = c.args.lanes.now in
    let name = c.args.document.now in
    roams_on old c.ready.new.lanes w name c.args.moment c.lent.result.now c.roam_lane.new.lane desk at
    (used_of old c.ready.new.lanes name c.args.moment r.field-0 r.field-0-test r.ensures.readied) r.ensures.limits c.lent.ensures.value c.args.name.now c.roam_lane.result
    (λ u at_u of. c.roam_lane.ensures.does old.limits u (document u name) of at_u)

pub returns-in-Ok-true-clause-runs : goal.returns-in-Ok-true-clause-runs
returns-in-Ok-true-clause-runs g c = λ first steps run.
    reads_desk first steps c.ready.new.lanes c.args.document.now c.lent.result.now c.roam_lane.new.lane c.roam_lane.result (c.in-Ok-true.ensures.runs first steps run)
    c.lent.ensures.value c.lent.ensures.out c.roam_lane.ensures.runs

pub returns-in-Ok-false-clause-does : goal.returns-in-Ok-false-clause-does
returns-in-Ok-false-clause-does g c = λ w desk sound at none.
    let r = c.in-Ok-false in
    let many = many_of c.args.lanes.now c.ready.new.lanes c.args.document.now c.args.moment r.field-0 r.field-0-test r.ensures.readied in
    roams_away c.args.lanes.now c.ready.new.lanes w c.args.document.now many.0 c.args.name.now c.turned_away.result desk many.1 c.turned_away.ensures

pub returns-in-Ok-false-clause-runs : goal.returns-in-Ok-false-clause-runs
returns-in-Ok-false-clause-runs g c = λ first steps run. turned_reading first steps c.ready.new.lanes c.args.name.now c.turned_away.result (c.in-Ok-false.ensures.runs first steps run) c.turned_away.ensures

pub returns-in-Err-clause-does : goal.returns-in-Err-clause-does
returns-in-Err-clause-does g c = λ w desk sound at none.
    may_unready c.args.lanes.now.limits w c.args.document.now c.ready.new.lanes (step.Roam c.args.name.now c.args.document.now) c.in-Err.stop refl (c.in-Err.ensures.honest w desk)

pub returns-in-Err-clause-runs : goal.returns-in-Err-clause-runs
returns-in-Err-clause-runs g c = λ first steps run. stops_reading first steps c.ready.new.lanes c.in-Err.stop (c.in-Err.ensures.runs first steps run)

pub returns-in-Ok-false-clause-kept : goal.returns-in-Ok-false-clause-kept
returns-in-Ok-false-clause-kept g c = refused_kept c.args.name.now TooManyDocuments c.turned_away.result c.turned_away.ensures
