use Rattle.fluid_lane.proofs.Quiet.{IsQuiet}
use Rattle.fluid_lane.proofs.silent.first_silent.Given as goal

abbrev pub invariant-loop-place : goal.invariant-loop-place
invariant-loop-place l = IsQuiet l.fn.moment l.fn.silence l.fn.clients.rows l.place
