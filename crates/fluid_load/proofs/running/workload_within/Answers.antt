use Rattle.std.proofs.Common.{rules, ◌≡◌, true, is_some}
use Rattle.fluid_door_link.specs.Hushing.{IsShortAsTold}
use Rattle.fluid_load.proofs.Desks.{short_at_first}
use Rattle.fluid_load.proofs.Whole.{short_told, beginning, can_begin_as, came_by, writes_told}
use Rattle.fluid_load.proofs.Alike.{same_told}
use Rattle.fluid_load.proofs.running.workload_within.Goals as goal

pub begin-working-requires : goal.begin-working-requires
begin-working-requires g c =
    let whole = c.requires.1.1.1.1.1.1.1.0 in
    let small = c.requires.1.1.1.1.1.1.1.1.0 in
    let short : is_some g.told ≡ true → IsShortAsTold (g.O.Objects.seen c.args.objects) =
    short_at_first (g.O.Objects.seen c.args.objects) g.told (g.B.Shelves.seen c.args.shelves) (short_told (g.O.Objects.seen c.args.objects) g.told (g.B.Shelves.seen c.args.shelves) c.requires.1.1.1.1.1.1.1.1.1) in
    search rules

pub do_acts-ended-requires-clause-begins : goal.do_acts-ended-requires-clause-begins
do_acts-ended-requires-clause-begins g c = beginning c.args.number c.args.clients c.args.ops c.new-acts.result c.new-acts.ensures

pub do_acts-ended-requires-clause-can : goal.do_acts-ended-requires-clause-can
do_acts-ended-requires-clause-can g c =
    can_begin_as (g.B.Shelves.seen c.args.shelves) c.args.limits (g.O.Objects.seen c.args.objects) c.args.number c.args.clients c.args.ops c.requires.1.1.1.1.1.0.1 c.requires.1.1.1.1.1.1.0.1 g.told c.requires.1.1.1.1.1.1.1.1.1
    c.begin-working.result c.begin-working.ensures c.new-acts.result c.new-acts.ensures

pub returns-clause-cause : goal.returns-clause-cause
returns-clause-cause g c =
    came_by (g.K.Sink.seen c.args.output.now) (g.K.Sink.seen c.finish-end.new.output) (g.B.Shelves.seen c.args.shelves) (g.B.Shelves.seen c.close-shelves.result.0) (g.O.Objects.seen c.args.objects) (g.O.Objects.seen c.close-shelves.result.1)
    c.faults_are_counted.ensures c.args.limits g.told c.new-acts.result c.begin-working.result c.do_acts-ended.new.working c.finish-end.new.working c.do_acts-ended.result c.finish-end.result c.begin-working.ensures c.do_acts-ended.ensures
    c.finish-end.ensures.same c.close-shelves.ensures.shelves c.close-shelves.ensures.store c.finish-end.ensures.ends

pub returns-clause-whole : goal.returns-clause-whole
returns-clause-whole g c = c.close-shelves.ensures.shelves.whole

pub returns-clause-writes : goal.returns-clause-writes
returns-clause-writes g c =
    writes_told (g.K.Sink.seen c.args.output.now) (g.K.Sink.seen c.finish-end.new.output) (g.B.Shelves.seen c.args.shelves) (g.B.Shelves.seen c.close-shelves.result.0) (g.O.Objects.seen c.args.objects) (g.O.Objects.seen c.close-shelves.result.1)
    c.desks_come_back.ensures c.args.limits c.args.number c.args.clients c.args.ops c.new-acts.result c.new-acts.ensures c.begin-working.result c.do_acts-ended.new.working c.finish-end.new.working c.do_acts-ended.result c.finish-end.result
    c.do_acts-ended.ensures c.finish-end.ensures.same c.close-shelves.ensures.shelves c.close-shelves.ensures.store c.close-shelves.ensures.short c.finish-end.ensures.ends c.finish-end.ensures.lines g.told c.requires.1.1.1.1.1.1.1.1.1 c.begin-working.ensures

pub returns-clause-same : goal.returns-clause-same
returns-clause-same g c = λ done room.
    same_told c.workloads_end_same.ensures (g.B.Shelves.seen c.args.shelves) (g.O.Objects.seen c.args.objects) (g.K.Sink.seen c.args.output.now) (g.K.Sink.seen c.finish-end.new.output) c.args.limits c.args.number c.args.clients c.args.ops
    c.new-acts.result c.new-acts.ensures c.begin-working.result c.do_acts-ended.new.working c.finish-end.new.working c.do_acts-ended.result c.finish-end.result c.do_acts-ended.ensures c.finish-end.ensures.same c.close-shelves.ensures.short
    c.finish-end.ensures.ends done room g.told c.requires.1.1.1.1.1.1.1.1.1 c.begin-working.ensures
