use Rattle.std.proofs.Common.{◌≡◌}
use Rattle.tests_of_connections.proofs.lives.life.Given as goal

-- their keys are of the service
abbrev pub invariant-loop-row : goal.invariant-loop-row
invariant-loop-row g l = (l.first.key.turn ≡ l.fn.service) × (l.second.key.turn ≡ l.fn.service)
