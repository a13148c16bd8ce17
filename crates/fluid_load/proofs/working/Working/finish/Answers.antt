use Rattle.std.proofs.Common.{arith}
use Rattle.std.proofs.lemmas.Result.{err_from_is_err_and}
use Rattle.fluid_load.proofs.Parts.{can_less, can_then, then_works, stop_works}
use Rattle.fluid_load.proofs.working.Working.finish.Goals as goal

pub load_last-requires : goal.load_last-requires
load_last-requires g c = can_less 1 2 c.args.self.now (omega arith) c.requires

pub pump-requires : goal.pump-requires
pump-requires g c = can_then 1 1 c.requires c.in_ok-load_last.ensures

pub returns-in_err-load_last : goal.returns-in_err-load_last
returns-in_err-load_last g c =
    let e = err_from_is_err_and c.from_residual.result c.from_residual.ensures.1 in
    rw (e.1, e.2) (stop_works (omega arith) c.in_err-load_last.ensures)

pub returns : goal.returns
returns g c = then_works c.in_ok-load_last.ensures c.pump.ensures
