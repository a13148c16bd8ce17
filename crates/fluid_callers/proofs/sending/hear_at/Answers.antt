use Rattle.fluid_desk.proofs.Doing.{used_of, many_of, used_there}
use Rattle.fluid_callers.proofs.Ends.{hears_desk, stops_hearing, memory_hears}
use Rattle.fluid_callers.proofs.Sent.{sends_on, sends_beyond, unsent}
use Rattle.fluid_callers.proofs.sending.hear_at.Goals as goal

pub lent-requires : goal.lent-requires
lent-requires g c = used_there c.args.lanes.now c.ready.new.lanes c.args.document.now c.args.moment c.in-Ok-true.field-0 c.in-Ok-true.field-0-test c.in-Ok-true.ensures.readied

pub returns-in-Ok-true-clause-does : goal.returns-in-Ok-true-clause-does
returns-in-Ok-true-clause-does g c = λ w text desk held sound is at acts to.
    let r = c.in-Ok-true in
    sends_on c.args.lanes.now c.ready.new.lanes w c.args.name.now c.args.document.now text c.args.moment c.args.voice.now c.hear_all.new.voice c.args.acts c.lent.result.now c.hear_all.new.lane
    (g.O.Objects.seen c.args.objects.now) (g.O.Objects.seen c.hear_all.new.objects) c.hear_all.result desk held is at acts to
    (used_of c.args.lanes.now c.ready.new.lanes c.args.document.now c.args.moment r.field-0 r.field-0-test r.ensures.readied) r.ensures.limits c.lent.ensures.value c.hear_all.ensures.does

pub returns-in-Ok-true-clause-runs : goal.returns-in-Ok-true-clause-runs
returns-in-Ok-true-clause-runs g c = λ first steps run.
    hears_desk first steps c.ready.new.lanes c.args.document.now c.lent.result.now c.hear_all.new.lane (g.O.Objects.seen c.args.objects.now) (g.O.Objects.seen c.hear_all.new.objects) c.hear_all.result
    (c.in-Ok-true.ensures.runs first steps run) c.lent.ensures.value c.lent.ensures.out c.hear_all.ensures.runs

pub returns-in-Ok-true-clause-counts : goal.returns-in-Ok-true-clause-counts
returns-in-Ok-true-clause-counts g c = c.hear_all.ensures.runs.counts

pub returns-in-Ok-false-clause-does : goal.returns-in-Ok-false-clause-does
returns-in-Ok-false-clause-does g c = λ w text desk held sound is at acts to.
    let r = c.in-Ok-false in
    let many = many_of c.args.lanes.now c.ready.new.lanes c.args.document.now c.args.moment r.field-0 r.field-0-test r.ensures.readied in
    sends_beyond c.args.lanes.now c.ready.new.lanes w c.args.name.now c.args.document.now text c.args.moment many.0 c.args.voice.now c.hear_nowhere.new.voice c.args.acts (g.O.Objects.seen c.args.objects.now)
    c.hear_nowhere.result desk held sound is at acts to many.1 c.hear_nowhere.ensures.says

pub returns-in-Ok-false-clause-runs : goal.returns-in-Ok-false-clause-runs
returns-in-Ok-false-clause-runs g c = λ first steps run.
    memory_hears first steps c.ready.new.lanes (g.O.Objects.seen c.args.objects.now) (g.O.Objects.seen c.args.objects.now) c.hear_nowhere.result (c.in-Ok-false.ensures.runs first steps run) c.hear_nowhere.ensures.memory

pub returns-in-Err-clause-does : goal.returns-in-Err-clause-does
returns-in-Err-clause-does g c = λ w text desk held sound is at acts to.
    unsent c.args.lanes.now.limits c.ready.new.lanes w c.args.name.now c.args.document.now text c.args.moment c.args.voice.now c.args.acts c.in-Err.stop is at acts to (c.in-Err.ensures.honest w desk)

pub returns-in-Err-clause-runs : goal.returns-in-Err-clause-runs
returns-in-Err-clause-runs g c = λ first steps run.
    stops_hearing first steps (g.O.Objects.seen c.args.objects.now) (g.O.Objects.seen c.args.objects.now) c.ready.new.lanes c.in-Err.stop (c.in-Err.ensures.runs first steps run)
