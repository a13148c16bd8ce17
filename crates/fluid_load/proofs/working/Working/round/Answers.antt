use Rattle.std.proofs.Common.{arith}
use Rattle.std.proofs.lemmas.Result.{err_from_is_err_and}
use Rattle.fluid_load.proofs.Parts.{can_less, can_then, then_works, stop_works, stop_then}
use Rattle.fluid_load.proofs.working.Working.round.Goals as goal

pub pump-requires : goal.pump-requires
pump-requires g c = can_less 1 5 c.args.self.now (omega arith) c.requires

pub summarize-requires : goal.summarize-requires
summarize-requires g c = can_less 1 4 c.pump.new.self (omega arith) (can_then 1 4 c.requires c.in_ok-pump.ensures)

pub scribe-requires : goal.scribe-requires
scribe-requires g c = can_less 1 3 c.summarize.new.self (omega arith) (can_then 1 3 (can_then 1 4 c.requires c.in_ok-pump.ensures) c.in_ok-summarize.ensures)

pub checkpoint-requires : goal.checkpoint-requires
checkpoint-requires g c = can_less 1 2 c.scribe.new.self (omega arith) (can_then 1 2 (can_then 1 3 (can_then 1 4 c.requires c.in_ok-pump.ensures) c.in_ok-summarize.ensures) c.in_ok-scribe.ensures)

pub restart-requires : goal.restart-requires
restart-requires g c = can_then 1 1 (can_then 1 2 (can_then 1 3 (can_then 1 4 c.requires c.in_ok-pump.ensures) c.in_ok-summarize.ensures) c.in_ok-scribe.ensures) c.in_ok-checkpoint.ensures

pub returns-in_err-pump : goal.returns-in_err-pump
returns-in_err-pump g c =
    let e = err_from_is_err_and c.from_residual.result c.from_residual.ensures.1 in
    rw (e.1, e.2) (stop_works (omega arith) c.in_err-pump.ensures)

pub returns-in_err-summarize : goal.returns-in_err-summarize
returns-in_err-summarize g c =
    let e = err_from_is_err_and c.from_residual-in_err-summarize.result c.from_residual-in_err-summarize.ensures.1 in
    rw (e.1, e.2) (stop_then (omega arith) c.in_ok-pump.ensures c.in_err-summarize.ensures)

pub returns-in_err-scribe : goal.returns-in_err-scribe
returns-in_err-scribe g c =
    let e = err_from_is_err_and c.from_residual-in_err-scribe.result c.from_residual-in_err-scribe.ensures.1 in
    rw (e.1, e.2) (stop_then (omega arith) (then_works c.in_ok-pump.ensures c.in_ok-summarize.ensures) c.in_err-scribe.ensures)

pub returns-in_err-checkpoint : goal.returns-in_err-checkpoint
returns-in_err-checkpoint g c =
    let e = err_from_is_err_and c.from_residual-in_err-checkpoint.result c.from_residual-in_err-checkpoint.ensures.1 in
    rw (e.1, e.2) (stop_then (omega arith) (then_works (then_works c.in_ok-pump.ensures c.in_ok-summarize.ensures) c.in_ok-scribe.ensures) c.in_err-checkpoint.ensures)

pub returns : goal.returns
returns g c = then_works (then_works (then_works (then_works c.in_ok-pump.ensures c.in_ok-summarize.ensures) c.in_ok-scribe.ensures) c.in_ok-checkpoint.ensures) c.restart.ensures
