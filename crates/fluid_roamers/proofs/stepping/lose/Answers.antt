use Rattle.std.proofs.Common.{refl}
use Rattle.fluid_steps.specs.declared.steps.Step.TheVariants as step
use Rattle.fluid_desk.proofs.Doing.{used_of, many_of}
use Rattle.fluid_callers.proofs.Ends.{stops_reading}
use Rattle.fluid_roamers.proofs.Desk.{loses_on, unstepped, never_away, about_roamer}
use Rattle.fluid_roamers.proofs.Reading.{line_reading}
use Rattle.fluid_roamers.proofs.stepping.lose.Goals as goal

pub returns-in-Ok-true-clause-does : goal.returns-in-Ok-true-clause-does
returns-in-Ok-true-clause-does g c = λ w k desk sound at named roams.
    let r = c.in-Ok-true in
    loses_on c.args.lanes.now c.ready.new.lanes w c.args.name.now c.args.roamer.now.document c.args.moment k c.args.roamer.now desk sound at named roams refl
    (used_of c.args.lanes.now c.ready.new.lanes c.args.roamer.now.document c.args.moment r.field-0 r.field-0-test r.ensures.readied) r.ensures.limits c.lose_now.new.roamer c.lose_now.result
    (λ d is. c.lose_now.ensures.does c.args.lanes.now.limits w d k is) c.lose_now.ensures.line

pub returns-in-Ok-true-clause-runs : goal.returns-in-Ok-true-clause-runs
returns-in-Ok-true-clause-runs g c = λ first steps run. line_reading first steps c.ready.new.lanes _ c.lose_now.result (c.in-Ok-true.ensures.runs first steps run) c.lose_now.ensures.line

pub returns-in-Ok-false-clause-does : goal.returns-in-Ok-false-clause-does
returns-in-Ok-false-clause-does g c = λ w k desk sound at named roams.
    let r = c.in-Ok-false in
    let many = many_of c.args.lanes.now c.ready.new.lanes c.args.roamer.now.document c.args.moment r.field-0 r.field-0-test r.ensures.readied in
    never_away c.args.lanes.now c.ready.new.lanes w c.args.name.now c.args.roamer.now.document k c.args.roamer.now many.0 desk sound named roams refl many.1

pub returns-in-Ok-false-clause-runs : goal.returns-in-Ok-false-clause-runs
returns-in-Ok-false-clause-runs g c = λ first steps run. line_reading first steps c.ready.new.lanes _ c.beyond.result (c.in-Ok-false.ensures.runs first steps run) c.beyond.ensures

pub returns-in-Err-clause-does : goal.returns-in-Err-clause-does
returns-in-Err-clause-does g c = λ w k desk sound at named roams.
    unstepped c.args.lanes.now.limits c.ready.new.lanes w c.args.roamer.now.document (step.Lose c.args.name.now) k c.args.roamer.now c.in-Err.stop (about_roamer w c.args.name.now k named) roams refl
    (c.in-Err.ensures.honest w desk)

pub returns-in-Err-clause-runs : goal.returns-in-Err-clause-runs
returns-in-Err-clause-runs g c = λ first steps run. stops_reading first steps c.ready.new.lanes c.in-Err.stop (c.in-Err.ensures.runs first steps run)
