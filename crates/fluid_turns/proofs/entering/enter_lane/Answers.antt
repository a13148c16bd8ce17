use Rattle.std.proofs.Common.{sym, subst, arith}
use Rattle.fluid_desk.specs.Stopping.{LaneEndsBy}
use Rattle.fluid_desk.proofs.Few.{fault_aside}
use Rattle.fluid_turns.specs.Entering.{EntersLane}
use Rattle.fluid_turns.proofs.Lanes.{submission_kind, taken, unentered_does, unentered_runs}
use Rattle.fluid_turns.proofs.entering.enter_lane.Goals as goal

pub submit-requires-clause-kind : goal.submit-requires-clause-kind
submit-requires-clause-kind g c = submission_kind c.args.raw.now c.requires.kind

pub returns-in-Ok-clause-does : goal.returns-in-Ok-clause-does
returns-in-Ok-clause-does g c = λ limits d of.
    let e = c.in-Ok.ensures in taken limits c.args.lane.now c.submit.new.self d c.args.raw.now of c.in-Ok.verdict e.goes e.enters.owes e.said e.gate

pub returns-in-Err-clause-does : goal.returns-in-Err-clause-does
returns-in-Err-clause-does g c = λ limits d of.
    subst (EntersLane limits d c.args.raw.now c.submit.new.self) (sym c.unentered.ensures) (unentered_does limits c.args.lane.now c.submit.new.self d c.args.raw.now of c.in-Err.fault c.in-Err.ensures.gate)

pub returns-in-Err-clause-runs : goal.returns-in-Err-clause-runs
returns-in-Err-clause-runs g c =
    let e = c.in-Err.ensures in
    record {
      later = e.goes.later;
      sides = fault_aside _ _ c.in-Err.fault e.goes.sides;
      ends = subst (LaneEndsBy c.args.lane.now c.submit.new.self) (sym c.unentered.ensures) (unentered_runs c.args.lane.now c.submit.new.self c.args.raw.now c.in-Err.fault e.gate e.enters.cause);
    }

pub returns-in-Ok-clause-runs : goal.returns-in-Ok-clause-runs
returns-in-Ok-clause-runs g c = record { later = c.in-Ok.ensures.goes.later; sides = omega (arith, c.in-Ok.ensures.goes.sides); ends = tt }
