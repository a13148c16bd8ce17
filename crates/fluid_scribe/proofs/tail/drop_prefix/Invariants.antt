use Rattle.std.proofs.Common.{◌≡◌, drop}
use Rattle.fluid_scribe.proofs.tail.drop_prefix.Given as goal

-- so many are gone
abbrev pub invariant-loop-index : goal.invariant-loop-index
invariant-loop-index g l = l.queue.items ≡ drop l._index l.fn.queue.items
