use Rattle.std.proofs.Common.{arith}
use Rattle.fluid_desk.proofs.Scribed.{concluded, unconcluded}
use Rattle.fluid_desk.proofs.Steps.{told_ends, unruled_ends}
use Rattle.fluid_desk.proofs.Few.{fault_aside}
use Rattle.fluid_desk.proofs.scribing.conclude.Goals as goal

pub returns-in-Ok-clause-does : goal.returns-in-Ok-clause-does
returns-in-Ok-clause-does g c = λ limits d of.
    let e = c.in-Ok.ensures in
    concluded limits c.args.lane.now c.conclude.new.self d c.args.name.now c.args.summary c.args.found c.args.moment c.in-Ok.verdict c.line_or_stop.result of e.goes e.enters.owes e.said (λ a is. c.line_or_stop.ensures _ (c.answer_line.ensures a is))

pub returns-in-Ok-clause-runs : goal.returns-in-Ok-clause-runs
returns-in-Ok-clause-runs g c = record { later = c.in-Ok.ensures.goes.later; sides = omega (arith, c.in-Ok.ensures.goes.sides); ends = told_ends c.args.lane.now c.conclude.new.self _ c.line_or_stop.result c.line_or_stop.ensures }

pub returns-in-Err-clause-does : goal.returns-in-Err-clause-does
returns-in-Err-clause-does g c = λ limits d of. rw c.stop_of.ensures (unconcluded limits c.args.lane.now c.conclude.new.self d c.in-Err.fault of c.in-Err.ensures.gate)

pub returns-in-Err-clause-runs : goal.returns-in-Err-clause-runs
returns-in-Err-clause-runs g c =
    let e = c.in-Err.ensures in
    record {
      later = e.goes.later;
      sides = fault_aside _ _ c.in-Err.fault e.goes.sides;
      ends = rw c.stop_of.ensures (unruled_ends c.args.lane.now c.conclude.new.self c.in-Err.fault e.gate e.enters.cause);
    }
