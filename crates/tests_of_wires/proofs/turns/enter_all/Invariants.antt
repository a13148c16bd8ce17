use Rattle.std.proofs.Common.{◌≡◌}
use Rattle.tests_of_wires.proofs.turns.enter_all.Given as goal

-- the seat is one of the turn
abbrev pub invariant-loop-number : goal.invariant-loop-number
invariant-loop-number g l = l.seat.turn ≡ l.fn.turn
