use Rattle.fluid_desk.proofs.Doing.{used_of, many_of, used_there}
use Rattle.fluid_desk.proofs.Running.{lane_runs, run_more, stops_more}
use Rattle.fluid_callers.proofs.Departing.{left_desk, unleft, never_beyond}
use Rattle.fluid_callers.proofs.closing.leave_document.Goals as goal

pub lent-requires : goal.lent-requires
lent-requires g c = used_there c.args.lanes.now c.ready.new.lanes c.args.document.now c.args.moment c.in-Ok-true.field-0 c.in-Ok-true.field-0-test c.in-Ok-true.ensures.readied

pub returns-in-Ok-true-clause-does : goal.returns-in-Ok-true-clause-does
returns-in-Ok-true-clause-does g c = λ w name next desk sound at.
    let r = c.in-Ok-true in
    left_desk c.args.lanes.now c.ready.new.lanes w name c.args.document.now c.args.id.now next c.args.moment c.lent.result.now c.leave_lane.new.lane c.leave_lane.result desk sound at
    (used_of c.args.lanes.now c.ready.new.lanes c.args.document.now c.args.moment r.field-0 r.field-0-test r.ensures.readied) r.ensures.limits c.lent.ensures.value
    (λ d of. c.leave_lane.ensures.does c.args.lanes.now.limits d of)

pub returns-in-Ok-true-clause-runs : goal.returns-in-Ok-true-clause-runs
returns-in-Ok-true-clause-runs g c = λ before steps run.
    lane_runs before steps c.ready.new.lanes c.args.document.now c.lent.result.now c.leave_lane.new.lane c.leave_lane.result (c.in-Ok-true.ensures.runs before steps run) c.lent.ensures.value c.lent.ensures.out c.leave_lane.ensures.runs

pub returns-in-Ok-false-clause-does : goal.returns-in-Ok-false-clause-does
returns-in-Ok-false-clause-does g c = λ w name next desk sound at.
    let r = c.in-Ok-false in
    let many = many_of c.args.lanes.now c.ready.new.lanes c.args.document.now c.args.moment r.field-0 r.field-0-test r.ensures.readied in
    absurd (never_beyond c.args.lanes.now c.ready.new.lanes w c.args.document.now many.0 desk sound.0.open_is many.1)

pub returns-in-Err-clause-does : goal.returns-in-Err-clause-does
returns-in-Err-clause-does g c = λ w name next desk sound at.
    unleft c.ready.new.lanes w name c.args.document.now c.args.id.now next c.in-Err.stop sound.0.open_is (c.in-Err.ensures.honest w desk)

pub returns-in-Ok-false-clause-runs : goal.returns-in-Ok-false-clause-runs
returns-in-Ok-false-clause-runs g c = λ before steps run. run_more before steps c.ready.new.lanes (c.in-Ok-false.ensures.runs before steps run)

pub returns-in-Err-clause-runs : goal.returns-in-Err-clause-runs
returns-in-Err-clause-runs g c = λ before steps run. stops_more before steps c.ready.new.lanes c.in-Err.stop (c.in-Err.ensures.runs before steps run)
