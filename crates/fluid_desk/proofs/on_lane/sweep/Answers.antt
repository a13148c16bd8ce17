use Rattle.fluid_transcript.specs.Documents.{swept}
use Rattle.fluid_desk.proofs.Steps.{is_left, sweeps, unswept_honest, unswept_ends, line_ends}
use Rattle.fluid_desk.proofs.Few.{fault_aside, swept_aside}
use Rattle.fluid_desk.proofs.on_lane.sweep.Goals as goal

pub swept_line-requires : goal.swept_line-requires
swept_line-requires g c = is_left c.args.moment _ _ _ c.in-Ok.swept c.in-Ok.ensures.sweeps

pub returns-in-Ok-clause-does : goal.returns-in-Ok-clause-does
returns-in-Ok-clause-does g c = λ limits w d of at.
    let e = c.in-Ok.ensures in
    sweeps limits _ _ w d c.args.name.now c.args.silence of c.in-Ok.swept _ e.goes (rw (← at) at e.sweeps) (c.line_or_stop.ensures _ c.swept_line.ensures)

pub returns-in-Ok-clause-runs : goal.returns-in-Ok-clause-runs
returns-in-Ok-clause-runs g c = record { later = c.in-Ok.ensures.goes.later; sides = swept_aside _ _ c.in-Ok.swept c.in-Ok.ensures.goes.sides; ends = line_ends c.args.lane.now c.sweep.new.self _ _ (c.line_or_stop.ensures _ c.swept_line.ensures) }

pub returns-in-Err-clause-does : goal.returns-in-Err-clause-does
returns-in-Err-clause-does g c = λ limits w d of at. rw c.stop_of.ensures (unswept_honest limits (swept w d c.args.name.now c.args.silence) d c.args.moment _ _ _ c.in-Err.fault of c.in-Err.ensures.sweeps)

pub returns-in-Err-clause-runs : goal.returns-in-Err-clause-runs
returns-in-Err-clause-runs g c =
    record { later = c.in-Err.ensures.goes.later; sides = fault_aside _ _ c.in-Err.fault c.in-Err.ensures.goes.sides; ends = rw c.stop_of.ensures (unswept_ends c.args.moment _ _ _ c.in-Err.fault c.in-Err.ensures.sweeps) }
