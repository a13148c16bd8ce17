use Rattle.std.proofs.Common.{rules, arith, refl, Ok, Err}
use Rattle.fluid_containers.proofs.Fitted.{join_fits}
use Rattle.fluid_containers.proofs.Joined.{join_act, joins, unjoined_honest, done_fits, done_ends, done_lane, done_named, done_cause}
use Rattle.fluid_roamers.proofs.Entered.{entered_reads, unentered_reads}
use Rattle.fluid_roamers.proofs.Reading.{reads_nothing}
use Rattle.fluid_roamers.proofs.entering.join.Goals as goal

pub returns-in_err-name-clause-runs : goal.returns-in_err-name-clause-runs
returns-in_err-name-clause-runs g c = reads_nothing c.args.lane.now _ (search rules)

pub do_act-requires : goal.do_act-requires
do_act-requires g c = λ id name. done_fits c.in_ok-name.name c.null-detail.result c.args.moment c.null-detail.ensures id (join_fits id c.args.moment name (omega (arith, c.requires)))

pub joined-requires : goal.joined-requires
joined-requires g c = done_ends c.in_ok-name.name c.null-detail.result c.args.moment c.null-detail.ensures c.args.lane.now c.in-Ok.end c.in-Ok.ensures.lane.ends

pub returns-in-Ok-clause-does : goal.returns-in-Ok-clause-does
returns-in-Ok-clause-does g c = λ limits w d of at.
    let e = c.in-Ok.ensures in
    joins limits w c.args.lane.now c.do_act.new.lane d of c.in_ok-name.name c.args.moment at c.in-Ok.end c.joined.result c.args.objects.now w.store
    (done_lane c.in_ok-name.name c.null-detail.result c.args.moment c.null-detail.ensures c.args.lane.now c.do_act.new.lane (Ok c.in-Ok.end) e.lane)
    (done_named c.in_ok-name.name c.null-detail.result c.args.moment c.null-detail.ensures c.args.lane.now c.args.objects.now c.in-Ok.end e.end) c.joined.ensures

pub returns-in-Ok-clause-store : goal.returns-in-Ok-clause-store
returns-in-Ok-clause-store g c = c.in-Ok.ensures.store.untouched refl

pub returns-in-Ok-clause-runs : goal.returns-in-Ok-clause-runs
returns-in-Ok-clause-runs g c =
    entered_reads (join_act c.in_ok-name.name c.args.moment) c.args.lane.now c.do_act.new.lane c.args.objects.now c.do_act.new.objects c.in-Ok.end c.joined.result
    (done_lane c.in_ok-name.name c.null-detail.result c.args.moment c.null-detail.ensures c.args.lane.now c.do_act.new.lane (Ok c.in-Ok.end) c.in-Ok.ensures.lane)

pub returns-clause-does : goal.returns-clause-does
returns-clause-does g c = λ limits w d of at.
    rw c.unentered.ensures (unjoined_honest c.args.lane.now c.do_act.new.lane c.args.objects.now c.do_act.new.objects c.in_ok-name.name c.args.moment limits d c.in-Err.fault of
    (done_lane c.in_ok-name.name c.null-detail.result c.args.moment c.null-detail.ensures c.args.lane.now c.do_act.new.lane (Err c.in-Err.fault) c.in-Err.ensures.lane)
    (done_cause c.in_ok-name.name c.null-detail.result c.args.moment c.null-detail.ensures c.args.lane.now c.do_act.new.lane c.args.objects.now c.do_act.new.objects c.in-Err.fault c.in-Err.ensures.cause))

pub returns-clause-store : goal.returns-clause-store
returns-clause-store g c = c.in-Err.ensures.store.untouched refl

pub returns-clause-runs : goal.returns-clause-runs
returns-clause-runs g c =
    rw c.unentered.ensures (unentered_reads (join_act c.in_ok-name.name c.args.moment) c.args.lane.now c.do_act.new.lane c.args.objects.now c.do_act.new.objects c.in-Err.fault
    (done_lane c.in_ok-name.name c.null-detail.result c.args.moment c.null-detail.ensures c.args.lane.now c.do_act.new.lane (Err c.in-Err.fault) c.in-Err.ensures.lane)
    (done_cause c.in_ok-name.name c.null-detail.result c.args.moment c.null-detail.ensures c.args.lane.now c.do_act.new.lane c.args.objects.now c.do_act.new.objects c.in-Err.fault c.in-Err.ensures.cause))
