use Rattle.std.proofs.Common.{◌+◌}
use Rattle.fluid_desk.proofs.Running.{told_runs}
use Rattle.fluid_callers.proofs.Departing.{closes, unclosed}
use Rattle.fluid_callers.proofs.closing.close.Goals as goal

pub returns-in-Ok-clause-does : goal.returns-in-Ok-clause-does
returns-in-Ok-clause-does g c = λ w desk sound is at.
    closes c.args.lanes.now.limits c.leave.new.lanes w c.args.name.now c.args.voice.now c.line_or_stop.result is sound ((rw c.state.ensures at c.in-Ok.ensures.does) w c.args.name.now desk sound at)
    (c.line_or_stop.ensures _ c.closed_line.ensures)

pub returns-in-Ok-clause-runs : goal.returns-in-Ok-clause-runs
returns-in-Ok-clause-runs g c = λ before steps run. told_runs before (steps + 1) c.leave.new.lanes c.closed_line.result c.line_or_stop.result (c.in-Ok.ensures.runs before steps run) c.line_or_stop.ensures

pub returns-in-Err-clause-does : goal.returns-in-Err-clause-does
returns-in-Err-clause-does g c = λ w desk sound is at.
    unclosed c.args.lanes.now.limits c.leave.new.lanes w c.args.name.now c.args.voice.now c.in-Err.stop is sound ((rw c.state.ensures at c.in-Err.ensures.does) w c.args.name.now desk sound at)
