use Rattle.std.proofs.Common.{arith}
use Rattle.fluid_callers.proofs.Departing.{leave_kind, enters, unentered_honest, unentered_ends}
use Rattle.fluid_desk.specs.Stopping.{steps_on}
use Rattle.fluid_desk.proofs.Honest.{worn_same}
use Rattle.fluid_desk.proofs.Few.{fault_aside}
use Rattle.fluid_callers.proofs.closing.enter.Goals as goal

pub submit-requires-clause-kind : goal.submit-requires-clause-kind
submit-requires-clause-kind g c = leave_kind c.args.raw.now c.requires.leave

pub returns-in-Ok-clause-does : goal.returns-in-Ok-clause-does
returns-in-Ok-clause-does g c = λ limits d of.
    let e = c.in-Ok.ensures in enters limits c.args.lane.now c.submit.new.self d c.args.raw.now c.in-Ok.verdict of e.goes e.enters.owes e.said

pub returns-in-Err-clause-does : goal.returns-in-Err-clause-does
returns-in-Err-clause-does g c = λ limits d of. rw c.stop_of.ensures (unentered_honest c.args.lane.now c.submit.new.self c.args.raw.now c.in-Err.fault c.requires.leave c.in-Err.ensures.gate (steps_on d c.submit.new.self) (worn_same limits c.args.lane.now c.submit.new.self d of))

pub returns-in-Err-clause-runs : goal.returns-in-Err-clause-runs
returns-in-Err-clause-runs g c =
    let e = c.in-Err.ensures in
    record { later = e.goes.later; sides = fault_aside _ _ c.in-Err.fault e.goes.sides; ends = rw c.stop_of.ensures (unentered_ends c.args.lane.now c.submit.new.self c.args.raw.now c.in-Err.fault c.requires.leave e.gate e.enters.cause) }

pub returns-in-Ok-clause-runs : goal.returns-in-Ok-clause-runs
returns-in-Ok-clause-runs g c = record { later = c.in-Ok.ensures.goes.later; sides = omega (arith, c.in-Ok.ensures.goes.sides); ends = tt }
