use Rattle.std.proofs.Common.{arith}
use Rattle.fluid_desk.proofs.Steps.{stays, restarts, restarts_none, told_ends, unrestarted_ends}
use Rattle.fluid_desk.proofs.Few.{fault_aside}
use Rattle.fluid_desk.proofs.on_lane.restart.Goals as goal

pub returns-in-Ok-clause-does : goal.returns-in-Ok-clause-does
returns-in-Ok-clause-does g c = λ limits w d of.
    let e = c.in-Ok.ensures in
    restarts limits _ _ w d c.args.name.now c.args.number of tt _ e.goes e.gate e.restarts
    (c.line_or_stop.ensures _ (c.restarted_line.ensures _ (c.numbers_of.ensures limits d (stays limits _ _ w d c.args.name.now c.args.number of tt e.goes e.restarts))))

pub returns-in-Ok-clause-runs : goal.returns-in-Ok-clause-runs
returns-in-Ok-clause-runs g c =
    record { later = c.in-Ok.ensures.goes.later; sides = omega (arith, c.in-Ok.ensures.goes.sides); ends = told_ends c.args.lane.now c.restart.new.self _ _ (c.line_or_stop.ensures) }

pub returns-in-Err-clause-does : goal.returns-in-Err-clause-does
returns-in-Err-clause-does g c = λ limits w d of.
    let e = c.in-Err.ensures in
    restarts_none limits _ _ w d c.args.name.now c.args.number of c.in-Err.fault _ e.goes e.gate e.restarts (e.never of.list of.stands) c.unrestarted.ensures

pub returns-in-Err-clause-runs : goal.returns-in-Err-clause-runs
returns-in-Err-clause-runs g c =
    let e = c.in-Err.ensures in
    record { later = e.goes.later; sides = fault_aside _ _ c.in-Err.fault e.goes.sides; ends = unrestarted_ends _ _ c.args.name.now c.args.number c.in-Err.fault _ e.gate e.restarts.cause c.unrestarted.ensures }
