use Rattle.std.proofs.Common.{refl, rules, arith, Ok, Err}
use Rattle.fluid_containers.proofs.Fitted.{join_fits}
use Rattle.fluid_containers.proofs.Joined.{joins, stands_on, joined_links, unjoined_honest, unjoined_links, done_fits, done_ends, done_lane, done_store, done_named, done_cause}
use Rattle.fluid_containers.proofs.Ends.{unlent_links}
use Rattle.fluid_containers.proofs.joining.join.Goals as goal

pub returns-in_err-name-clause-runs : goal.returns-in_err-name-clause-runs
returns-in_err-name-clause-runs g c = unlent_links c.args.lane.now c.args.objects.now _ (search rules)

pub do_act-requires : goal.do_act-requires
do_act-requires g c = λ id name. done_fits c.in_ok-name.name c.null-detail.result c.args.moment c.null-detail.ensures id (join_fits id c.args.moment name (omega (arith, c.requires)))

pub joined-requires : goal.joined-requires
joined-requires g c = done_ends c.in_ok-name.name c.null-detail.result c.args.moment c.null-detail.ensures c.args.lane.now c.in-Ok.end c.in-Ok.ensures.lane.ends

pub returns-in-Ok-clause-does : goal.returns-in-Ok-clause-does
returns-in-Ok-clause-does g c = λ limits w d of at.
    let e = c.in-Ok.ensures in
    joins limits w c.args.lane.now c.do_act.new.lane d of c.in_ok-name.name c.args.moment at c.in-Ok.end c.joined.result c.args.objects.now w.store (done_lane c.in_ok-name.name c.null-detail.result c.args.moment c.null-detail.ensures c.args.lane.now c.do_act.new.lane (Ok c.in-Ok.end) e.lane) (done_named c.in_ok-name.name c.null-detail.result c.args.moment c.null-detail.ensures c.args.lane.now c.args.objects.now c.in-Ok.end e.end) c.joined.ensures

pub returns-in-Ok-clause-store : goal.returns-in-Ok-clause-store
returns-in-Ok-clause-store g c = c.in-Ok.ensures.store.untouched refl

pub returns-in-Ok-clause-stood : goal.returns-in-Ok-clause-stood
returns-in-Ok-clause-stood g c = λ stood. stands_on c.args.lane.now c.do_act.new.lane c.in_ok-name.name c.args.moment c.in-Ok.end (done_lane c.in_ok-name.name c.null-detail.result c.args.moment c.null-detail.ensures c.args.lane.now c.do_act.new.lane (Ok c.in-Ok.end) c.in-Ok.ensures.lane) stood

pub returns-in-Ok-clause-runs : goal.returns-in-Ok-clause-runs
returns-in-Ok-clause-runs g c =
    joined_links c.args.lane.now c.do_act.new.lane c.args.objects.now c.do_act.new.objects c.in_ok-name.name c.args.moment c.in-Ok.end c.joined.result (done_lane c.in_ok-name.name c.null-detail.result c.args.moment c.null-detail.ensures c.args.lane.now c.do_act.new.lane (Ok c.in-Ok.end) c.in-Ok.ensures.lane) (done_store c.in_ok-name.name c.null-detail.result c.args.moment c.null-detail.ensures c.args.objects.now c.do_act.new.objects (Ok c.in-Ok.end) c.in-Ok.ensures.store)

pub returns-clause-does : goal.returns-clause-does
returns-clause-does g c = λ limits w d of at.
    rw c.unjoined.ensures (unjoined_honest c.args.lane.now c.do_act.new.lane c.args.objects.now c.do_act.new.objects c.in_ok-name.name c.args.moment limits d c.in-Err.fault of
    (done_lane c.in_ok-name.name c.null-detail.result c.args.moment c.null-detail.ensures c.args.lane.now c.do_act.new.lane (Err c.in-Err.fault) c.in-Err.ensures.lane)
    (done_cause c.in_ok-name.name c.null-detail.result c.args.moment c.null-detail.ensures c.args.lane.now c.do_act.new.lane c.args.objects.now c.do_act.new.objects c.in-Err.fault c.in-Err.ensures.cause))

pub returns-clause-store : goal.returns-clause-store
returns-clause-store g c = c.in-Err.ensures.store.untouched refl

pub returns-clause-runs : goal.returns-clause-runs
returns-clause-runs g c =
    let e = c.in-Err.ensures in
    rw c.unjoined.ensures (unjoined_links c.args.lane.now c.do_act.new.lane c.args.objects.now c.do_act.new.objects c.in_ok-name.name c.args.moment c.in-Err.fault (done_lane c.in_ok-name.name c.null-detail.result c.args.moment c.null-detail.ensures c.args.lane.now c.do_act.new.lane (Err c.in-Err.fault) e.lane) (done_store c.in_ok-name.name c.null-detail.result c.args.moment c.null-detail.ensures c.args.objects.now c.do_act.new.objects (Err c.in-Err.fault) e.store) (done_cause c.in_ok-name.name c.null-detail.result c.args.moment c.null-detail.ensures c.args.lane.now c.do_act.new.lane c.args.objects.now c.do_act.new.objects c.in-Err.fault e.cause))
