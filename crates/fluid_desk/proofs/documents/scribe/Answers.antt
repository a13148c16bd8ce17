use Rattle.std.proofs.Common.{ℕ, ◌+◌, List, Err, refl}
use Rattle.fluid_steps.specs.declared.steps.Step.TheVariants as step
use Rattle.fluid_transcript.specs.World.{document}
use Rattle.fluid_desk.proofs.Doing.{used_of, many_of, used_there, may_unready, steps_on_with, steps_away_with}
use Rattle.fluid_desk.proofs.Running.{line_runs, run_more, stops_more, lane_runs_with, runs_without}
use Rattle.fluid_desk.proofs.documents.scribe.Goals as goal

pub lent-requires : goal.lent-requires
lent-requires g c = used_there c.args.lanes.now c.ready.new.lanes c.args.name.now c.args.moment c.in-Ok-true.field-0 c.in-Ok-true.field-0-test c.in-Ok-true.ensures.readied

pub returns-in-Ok-true-clause-does : goal.returns-in-Ok-true-clause-does
returns-in-Ok-true-clause-does g c = λ w desk held at.
    let r = c.in-Ok-true in
    steps_on_with c.args.lanes.now c.ready.new.lanes w c.args.name.now c.args.moment (step.Scribe c.args.name.now) c.lent.result.now c.scribe.new.lane (g.O.Objects.seen c.args.objects.now) (g.O.Objects.seen c.scribe.new.objects) c.scribe.result desk held at refl
    (used_of c.args.lanes.now c.ready.new.lanes c.args.name.now c.args.moment r.field-0 r.field-0-test r.ensures.readied) r.ensures.limits c.lent.ensures.value
    (λ v at of store. c.scribe.ensures.does c.args.lanes.now.limits v (document v c.args.name.now) of store at)

pub returns-in-Ok-true-clause-runs : goal.returns-in-Ok-true-clause-runs
returns-in-Ok-true-clause-runs g c = λ before steps run.
    lane_runs_with before steps c.ready.new.lanes c.args.name.now c.lent.result.now c.scribe.new.lane (g.O.Objects.seen c.args.objects.now) (g.O.Objects.seen c.scribe.new.objects) c.scribe.result (c.in-Ok-true.ensures.runs before steps run) c.lent.ensures.value c.lent.ensures.out c.scribe.ensures.runs

pub returns-in-Ok-false-clause-does : goal.returns-in-Ok-false-clause-does
returns-in-Ok-false-clause-does g c = λ w desk held at.
    let r = c.in-Ok-false in
    let many = many_of c.args.lanes.now c.ready.new.lanes c.args.name.now c.args.moment r.field-0 r.field-0-test r.ensures.readied in
    steps_away_with c.args.lanes.now c.ready.new.lanes w c.args.name.now (step.Scribe c.args.name.now) many.0 (g.O.Objects.seen c.args.objects.now) c.line_or_stop.result desk held refl refl many.1 (c.line_or_stop.ensures _ c.turned_away_line.ensures)

pub returns-in-Ok-false-clause-runs : goal.returns-in-Ok-false-clause-runs
returns-in-Ok-false-clause-runs g c = λ before steps run.
    runs_without before (steps + 1) c.ready.new.lanes (g.O.Objects.seen c.args.objects.now) c.line_or_stop.result
    (line_runs before (steps + 1) c.ready.new.lanes _ c.line_or_stop.result (run_more before steps c.ready.new.lanes (c.in-Ok-false.ensures.runs before steps run)) (c.line_or_stop.ensures _ c.turned_away_line.ensures))

pub returns-in-Err-clause-does : goal.returns-in-Err-clause-does
returns-in-Err-clause-does g c = λ w desk held at.
    may_unready c.args.lanes.now.limits w c.args.name.now c.ready.new.lanes (step.Scribe c.args.name.now) c.in-Err.stop refl (c.in-Err.ensures.honest w desk)

pub returns-in-Err-clause-runs : goal.returns-in-Err-clause-runs
returns-in-Err-clause-runs g c = λ before steps run.
    runs_without {A = List ℕ} before (steps + 1) c.ready.new.lanes (g.O.Objects.seen c.args.objects.now) (Err c.in-Err.stop) (stops_more before steps c.ready.new.lanes c.in-Err.stop (c.in-Err.ensures.runs before steps run))
