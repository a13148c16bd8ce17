use Rattle.std.proofs.Common.{arith}
use Rattle.fluid_desk.proofs.Steps.{stores, stores_none, line_ends, unstored_ends}
use Rattle.fluid_desk.proofs.Few.{fault_aside}
use Rattle.fluid_desk.proofs.on_lane.checkpoint.Goals as goal

pub returns-in-Ok-clause-does : goal.returns-in-Ok-clause-does
returns-in-Ok-clause-does g c = λ limits w d of.
    let e = c.in-Ok.ensures in
    stores limits _ _ w d c.args.name.now of c.in-Ok.number c.entered-entries.result _ e.goes e.gate e.stores c.entered-entries.ensures.is (c.line_or_stop.ensures _ c.stored_line.ensures)

pub returns-in-Ok-clause-runs : goal.returns-in-Ok-clause-runs
returns-in-Ok-clause-runs g c =
    let e = c.in-Ok.ensures in
    record { later = e.goes.later; sides = omega (arith, e.goes.sides); ends = line_ends c.args.lane.now c.checkpoint.new.self _ _ (c.line_or_stop.ensures _ c.stored_line.ensures) }

pub returns-in-Err-clause-does : goal.returns-in-Err-clause-does
returns-in-Err-clause-does g c = λ limits w d of.
    let e = c.in-Err.ensures in
    stores_none limits _ _ w d c.args.name.now of c.in-Err.fault _ e.goes e.gate e.stores c.unstored.ensures

pub returns-in-Err-clause-runs : goal.returns-in-Err-clause-runs
returns-in-Err-clause-runs g c =
    let e = c.in-Err.ensures in
    record { later = e.goes.later; sides = fault_aside _ _ c.in-Err.fault e.goes.sides; ends = unstored_ends _ _ c.args.name.now c.in-Err.fault _ e.gate e.stores.cause c.unstored.ensures }
