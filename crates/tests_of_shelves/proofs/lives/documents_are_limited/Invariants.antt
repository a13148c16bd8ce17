use Rattle.std.proofs.Common.{◌≡◌}
use Rattle.tests_of_shelves.proofs.lives.documents_are_limited.Given as goal

-- the key is one of the service
abbrev pub invariant-loop-number : goal.invariant-loop-number
invariant-loop-number g l = l.key.turn ≡ l.service
