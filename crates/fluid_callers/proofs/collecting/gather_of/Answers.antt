use Rattle.fluid_desk.proofs.Doing.{used_of, many_of, used_there}
use Rattle.fluid_callers.proofs.Collected.{name_of_next, gathers_on, ungathered, gathers_never}
use Rattle.fluid_callers.proofs.Ends.{reads_desk, stops_reading}
use Rattle.fluid_desk.proofs.Running.{run_more}
use Rattle.fluid_callers.proofs.collecting.gather_of.Goals as goal

pub lent-requires : goal.lent-requires
lent-requires g c = used_there c.args.lanes.now c.ready.new.lanes c.args.document.now c.args.moment c.in-Ok-true.field-0 c.in-Ok-true.field-0-test c.in-Ok-true.ensures.readied

pub returns-in-Ok-true-clause-does : goal.returns-in-Ok-true-clause-does
returns-in-Ok-true-clause-does g c = λ w next desk sound is at.
    let r = c.in-Ok-true in
    gathers_on c.args.lanes.now c.ready.new.lanes w c.args.name.now c.args.document.now c.args.moment c.args.voice.now c.lent.result.now c.gather_lane.new.lane c.gather_lane.result desk sound is at
    (name_of_next c.args.document.now c.args.next c.args.voice.now next)
    (used_of c.args.lanes.now c.ready.new.lanes c.args.document.now c.args.moment r.field-0 r.field-0-test r.ensures.readied) r.ensures.limits c.lent.ensures.value
    (λ limits d of. c.gather_lane.ensures.does limits d c.args.document.now next of)

pub returns-in-Ok-true-clause-runs : goal.returns-in-Ok-true-clause-runs
returns-in-Ok-true-clause-runs g c = λ first steps run.
    reads_desk first steps c.ready.new.lanes c.args.document.now c.lent.result.now c.gather_lane.new.lane c.gather_lane.result (c.in-Ok-true.ensures.runs first steps run) c.lent.ensures.value c.lent.ensures.out c.gather_lane.ensures.runs

pub returns-in-Ok-false-clause-does : goal.returns-in-Ok-false-clause-does
returns-in-Ok-false-clause-does g c = λ w next desk sound is at.
    let r = c.in-Ok-false in
    let many = many_of c.args.lanes.now c.ready.new.lanes c.args.document.now c.args.moment r.field-0 r.field-0-test r.ensures.readied in
    absurd (gathers_never c.args.lanes.now c.ready.new.lanes w c.args.document.now c.args.voice.now many.0 desk sound (name_of_next c.args.document.now c.args.next c.args.voice.now next) many.1)

pub returns-in-Err-clause-does : goal.returns-in-Err-clause-does
returns-in-Err-clause-does g c = λ w next desk sound is at.
    ungathered c.args.lanes.now.limits c.ready.new.lanes w c.args.name.now c.args.document.now c.args.voice.now c.in-Err.stop is (name_of_next c.args.document.now c.args.next c.args.voice.now next) (c.in-Err.ensures.honest w desk)

pub returns-in-Err-clause-runs : goal.returns-in-Err-clause-runs
returns-in-Err-clause-runs g c = λ first steps run. stops_reading first steps c.ready.new.lanes c.in-Err.stop (c.in-Err.ensures.runs first steps run)

pub returns-in-Ok-false-clause-runs : goal.returns-in-Ok-false-clause-runs
returns-in-Ok-false-clause-runs g c = λ first steps run. run_more first steps c.ready.new.lanes (c.in-Ok-false.ensures.runs first steps run)
