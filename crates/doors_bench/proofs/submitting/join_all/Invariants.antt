use Rattle.std.proofs.Common.{◌≡◌}
use Rattle.doors_bench.proofs.submitting.join_all.Given as goal

-- the key is one of the service
abbrev pub invariant-loop-thread : goal.invariant-loop-thread
invariant-loop-thread g l = l.key.turn ≡ l.fn.service
