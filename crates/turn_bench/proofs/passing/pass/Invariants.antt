use Rattle.std.proofs.Common.{◌≡◌}
use Rattle.turn_bench.proofs.passing.pass.Given as goal

-- the seat is one of the turn
abbrev pub invariant-loop : goal.invariant-loop
invariant-loop g l = l.seat.turn ≡ l.fn.turn
