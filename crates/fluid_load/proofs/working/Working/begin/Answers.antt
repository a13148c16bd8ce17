use Rattle.std.proofs.Common.{arith}
use Rattle.std.proofs.lemmas.Result.{err_from_is_err_and}
use Rattle.fluid_load.proofs.Parts.{begin_less, can_less, can_then, can_behind, then_opens, stop_opens, stop_opened}
use Rattle.fluid_load.proofs.working.Working.begin.Goals as goal

pub load_first-requires : goal.load_first-requires
load_first-requires g c = begin_less 1 4 c.args.self.now (omega arith) c.requires

pub attach_map-requires : goal.attach_map-requires
attach_map-requires g c = can_less 1 3 c.load_first.new.self (omega arith) (can_behind 1 3 c.requires c.in_ok-load_first.ensures)

pub attach_counter-requires : goal.attach_counter-requires
attach_counter-requires g c = can_less 1 2 c.attach_map.new.self (omega arith) (can_then 1 2 (can_behind 1 3 c.requires c.in_ok-load_first.ensures) c.in_ok-attach_map.ensures)

pub pump-requires : goal.pump-requires
pump-requires g c = can_then 1 1 (can_then 1 2 (can_behind 1 3 c.requires c.in_ok-load_first.ensures) c.in_ok-attach_map.ensures) c.in_ok-attach_counter.ensures

pub returns-in_err-load_first : goal.returns-in_err-load_first
returns-in_err-load_first g c =
    let e = err_from_is_err_and c.from_residual.result c.from_residual.ensures.1 in
    rw (e.1, e.2) (stop_opens (omega arith) c.in_err-load_first.ensures)

pub returns-in_err-attach_map : goal.returns-in_err-attach_map
returns-in_err-attach_map g c =
    let e = err_from_is_err_and c.from_residual-in_err-attach_map.result c.from_residual-in_err-attach_map.ensures.1 in
    rw (e.1, e.2) (stop_opened (omega arith) c.in_ok-load_first.ensures c.in_err-attach_map.ensures)

pub returns-in_err-attach_counter : goal.returns-in_err-attach_counter
returns-in_err-attach_counter g c =
    let e = err_from_is_err_and c.from_residual-in_err-attach_counter.result c.from_residual-in_err-attach_counter.ensures.1 in
    rw (e.1, e.2) (stop_opened (omega arith) (then_opens c.in_ok-load_first.ensures c.in_ok-attach_map.ensures) c.in_err-attach_counter.ensures)

pub returns : goal.returns
returns g c = then_opens (then_opens (then_opens c.in_ok-load_first.ensures c.in_ok-attach_map.ensures) c.in_ok-attach_counter.ensures) c.pump.ensures
