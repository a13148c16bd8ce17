use Rattle.std.proofs.Common.{◌+◌, refl}
use Rattle.fluid_steps.specs.declared.steps.Step.TheVariants as step
use Rattle.fluid_transcript.specs.World.{document}
use Rattle.fluid_desk.proofs.Doing.{used_of, many_of, used_there, may_unready, steps_on, steps_away}
use Rattle.fluid_desk.proofs.Running.{lane_runs, line_runs, run_more, stops_more}
use Rattle.fluid_desk.proofs.documents.restart.Goals as goal

pub lent-requires : goal.lent-requires
lent-requires g c = used_there c.args.lanes.now c.ready.new.lanes c.args.name.now c.args.moment c.in-Ok-true.field-0 c.in-Ok-true.field-0-test c.in-Ok-true.ensures.readied

pub returns-in-Ok-true-clause-does : goal.returns-in-Ok-true-clause-does
returns-in-Ok-true-clause-does g c = λ w desk at.
    let r = c.in-Ok-true in
    steps_on c.args.lanes.now c.ready.new.lanes w c.args.name.now c.args.moment (step.Restart c.args.name.now c.args.number) c.lent.result.now c.restart.new.lane c.restart.result desk at refl
    (used_of c.args.lanes.now c.ready.new.lanes c.args.name.now c.args.moment r.field-0 r.field-0-test r.ensures.readied) r.ensures.limits c.lent.ensures.value
    (λ v at of. c.restart.ensures.does c.args.lanes.now.limits v (document v c.args.name.now) of)

pub returns-in-Ok-true-clause-runs : goal.returns-in-Ok-true-clause-runs
returns-in-Ok-true-clause-runs g c = λ before steps run.
    lane_runs before steps c.ready.new.lanes c.args.name.now c.lent.result.now c.restart.new.lane c.restart.result (c.in-Ok-true.ensures.runs before steps run) c.lent.ensures.value c.lent.ensures.out c.restart.ensures.runs

pub returns-in-Ok-false-clause-does : goal.returns-in-Ok-false-clause-does
returns-in-Ok-false-clause-does g c = λ w desk at.
    let r = c.in-Ok-false in
    let many = many_of c.args.lanes.now c.ready.new.lanes c.args.name.now c.args.moment r.field-0 r.field-0-test r.ensures.readied in
    steps_away c.args.lanes.now c.ready.new.lanes w c.args.name.now (step.Restart c.args.name.now c.args.number) many.0 c.line_or_stop.result desk refl refl many.1 (c.line_or_stop.ensures _ c.turned_away_line.ensures)

pub returns-in-Ok-false-clause-runs : goal.returns-in-Ok-false-clause-runs
returns-in-Ok-false-clause-runs g c = λ before steps run. line_runs before (steps + 1) c.ready.new.lanes _ c.line_or_stop.result (run_more before steps c.ready.new.lanes (c.in-Ok-false.ensures.runs before steps run)) (c.line_or_stop.ensures _ c.turned_away_line.ensures)

pub returns-in-Err-clause-does : goal.returns-in-Err-clause-does
returns-in-Err-clause-does g c = λ w desk at.
    may_unready c.args.lanes.now.limits w c.args.name.now c.ready.new.lanes (step.Restart c.args.name.now c.args.number) c.in-Err.stop refl (c.in-Err.ensures.honest w desk)

pub returns-in-Err-clause-runs : goal.returns-in-Err-clause-runs
returns-in-Err-clause-runs g c = λ before steps run. stops_more before steps c.ready.new.lanes c.in-Err.stop (c.in-Err.ensures.runs before steps run)
