use Rattle.std.proofs.Common.{◌≡◌}
use Rattle.tests_of_shelves.proofs.lives.live.Given as goal

-- the key is one of the service
abbrev pub invariant-loop-step : goal.invariant-loop-step
invariant-loop-step g l = l.key.turn ≡ l.service
