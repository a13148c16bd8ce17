use Rattle.std.proofs.Common.{◌+◌, refl}
use Rattle.fluid_steps.specs.declared.steps.Step.TheVariants as step
use Rattle.fluid_transcript.specs.World.{document}
use Rattle.fluid_desk.proofs.Doing.{used_of, many_of, used_there, may_unready, steps_on, steps_away}
use Rattle.fluid_desk.proofs.Running.{run_more}
use Rattle.fluid_callers.proofs.Ends.{reads_desk, stops_reading}
use Rattle.fluid_callers.proofs.Tasked.{line_on}
use Rattle.fluid_callers.proofs.tasking.tasks.Goals as goal

pub lent-requires : goal.lent-requires
lent-requires g c = used_there c.args.lanes.now c.ready.new.lanes c.args.name.now c.args.moment c.in-Ok-true.field-0 c.in-Ok-true.field-0-test c.in-Ok-true.ensures.readied

pub returns-in-Ok-true-clause-does : goal.returns-in-Ok-true-clause-does
returns-in-Ok-true-clause-does g c = λ w desk at.
    let r = c.in-Ok-true in
    steps_on c.args.lanes.now c.ready.new.lanes w c.args.name.now c.args.moment (step.Tasks c.args.name.now) c.lent.result.now c.tasks_on.new.lane c.tasks_on.result desk at refl
    (used_of c.args.lanes.now c.ready.new.lanes c.args.name.now c.args.moment r.field-0 r.field-0-test r.ensures.readied) r.ensures.limits c.lent.ensures.value
    (λ v at of. c.tasks_on.ensures.does c.args.lanes.now.limits v (document v c.args.name.now) of)

pub returns-in-Ok-true-clause-runs : goal.returns-in-Ok-true-clause-runs
returns-in-Ok-true-clause-runs g c = λ first steps run.
    reads_desk first steps c.ready.new.lanes c.args.name.now c.lent.result.now c.tasks_on.new.lane c.tasks_on.result (c.in-Ok-true.ensures.runs first steps run) c.lent.ensures.value c.lent.ensures.out c.tasks_on.ensures.runs

pub returns-in-Ok-false-clause-does : goal.returns-in-Ok-false-clause-does
returns-in-Ok-false-clause-does g c = λ w desk at.
    let r = c.in-Ok-false in
    let many = many_of c.args.lanes.now c.ready.new.lanes c.args.name.now c.args.moment r.field-0 r.field-0-test r.ensures.readied in
    steps_away c.args.lanes.now c.ready.new.lanes w c.args.name.now (step.Tasks c.args.name.now) many.0 c.line_or_stop.result desk refl refl many.1 (c.line_or_stop.ensures _ c.turned_away_line.ensures)

pub returns-in-Ok-false-clause-runs : goal.returns-in-Ok-false-clause-runs
returns-in-Ok-false-clause-runs g c = λ first steps run.
    line_on first (steps + 1) c.ready.new.lanes _ c.line_or_stop.result (run_more first steps c.ready.new.lanes (c.in-Ok-false.ensures.runs first steps run)) (c.line_or_stop.ensures _ c.turned_away_line.ensures)

pub returns-in-Err-clause-does : goal.returns-in-Err-clause-does
returns-in-Err-clause-does g c = λ w desk at.
    may_unready c.args.lanes.now.limits w c.args.name.now c.ready.new.lanes (step.Tasks c.args.name.now) c.in-Err.stop refl (c.in-Err.ensures.honest w desk)

pub returns-in-Err-clause-runs : goal.returns-in-Err-clause-runs
returns-in-Err-clause-runs g c = λ first steps run. stops_reading first steps c.ready.new.lanes c.in-Err.stop (c.in-Err.ensures.runs first steps run)
