use Rattle.fluid_loader.specs.Calls.{begun_in}
use Rattle.fluid_loader.proofs.Loading.{handed_load, loaded_by, loaded_begins, loaded_replays, pumped_fresh, read_answers, begin_is_no_bad, read_is_no_bad, handed_bad}
use Rattle.fluid_loader.proofs.container.Container.load.Goals as goal

pub returns-in_err-pump-clause-does : goal.returns-in_err-pump-clause-does
returns-in_err-pump-clause-does g c =
    let old = g.L.Link.seen c.args.link.now in
    let new = g.L.Link.seen c.pump.new.link in
    handed_load c.args.pick.now old new c.from_residual-in_err-pump.result c.in_err-pump.field-0.0 c.from_residual-in_err-pump.ensures.1
    (read_answers (begun_in c.args.pick.now) old (g.L.Link.seen c.begin.new.link) new c.in_err-pump.field-0.0 c.in_ok-container.ensures.reads.later c.in_err-pump.ensures.does.0)

pub returns-clause-does : goal.returns-clause-does
returns-clause-does g c =
    loaded_by c.args.pick.now (g.L.Link.seen c.args.link.now) (g.L.Link.seen c.begin.new.link) (g.L.Link.seen c.pump.new.link) c.in_ok-container.container c.pump.new.self c.in_ok-pump.field-0
    c.in_ok-container.ensures.reads c.in_ok-container.ensures.does c.in_ok-pump.ensures.does c.in_ok-container.ensures.fetched

pub returns-clause-fresh : goal.returns-clause-fresh
returns-clause-fresh g c =
    pumped_fresh c.in_ok-container.container c.pump.new.self (g.L.Link.seen c.begin.new.link) (g.L.Link.seen c.pump.new.link) c.in_ok-pump.field-0 c.in_ok-pump.ensures.does c.in_ok-container.ensures.fresh

pub returns-clause-begins : goal.returns-clause-begins
returns-clause-begins g c =
    loaded_begins c.containers_stay_based.ensures c.picked_numbers_are_within.ensures c.args.pick.now (g.L.Link.seen c.args.link.now) (g.L.Link.seen c.pump.new.link) c.pump.new.self
    (returns-clause-does g c) c.id.ensures.document

pub returns-clause-replays : goal.returns-clause-replays
returns-clause-replays g c =
    loaded_replays c.honest_summaries_are_replayed.ensures c.args.pick.now (g.L.Link.seen c.args.link.now) (g.L.Link.seen c.pump.new.link) c.pump.new.self (returns-clause-does g c) c.id.ensures.document

pub returns-in_err-container-clause-honest_is_loaded : goal.returns-in_err-container-clause-honest_is_loaded
returns-in_err-container-clause-honest_is_loaded g c =
    handed_bad c.args.pick.now (g.L.Link.seen c.args.link.now).told c.from_residual.result c.in_err-container.field-0.0 c.from_residual.ensures.1
    (begin_is_no_bad c.honest_summaries_are_read.ensures c.picked_numbers_are_within.ensures c.args.pick.now (g.L.Link.seen c.args.link.now) (g.L.Link.seen c.begin.new.link) c.in_err-container.field-0.0
    c.id.ensures.document c.in_err-container.ensures.does)

pub returns-in_err-pump-clause-honest_is_loaded : goal.returns-in_err-pump-clause-honest_is_loaded
returns-in_err-pump-clause-honest_is_loaded g c =
    handed_bad c.args.pick.now (g.L.Link.seen c.args.link.now).told c.from_residual-in_err-pump.result c.in_err-pump.field-0.0 c.from_residual-in_err-pump.ensures.1
    (read_is_no_bad c.args.pick.now (g.L.Link.seen c.args.link.now).told (g.L.Link.seen c.begin.new.link) (g.L.Link.seen c.pump.new.link) c.in_err-pump.field-0.0 c.in_err-pump.ensures.does.0)
