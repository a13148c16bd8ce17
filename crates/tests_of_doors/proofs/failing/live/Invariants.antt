use Rattle.std.proofs.Common.{◌≡◌}
use Rattle.tests_of_doors.proofs.failing.live.Given as goal

-- the pass is one of the door
abbrev pub invariant-loop-call : goal.invariant-loop-call
invariant-loop-call g l = l.pass.turn ≡ l.door.turn
