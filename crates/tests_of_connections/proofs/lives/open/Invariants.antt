use Rattle.std.proofs.Common.{◌≡◌}
use Rattle.tests_of_connections.proofs.lives.open.Given as goal

-- the key is one of the service
abbrev pub invariant-loop-n : goal.invariant-loop-n
invariant-loop-n g l = l.talk.key.turn ≡ l.fn.service
