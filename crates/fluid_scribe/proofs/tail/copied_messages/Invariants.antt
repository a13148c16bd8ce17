use Rattle.std.proofs.Common.{◌≡◌, ◌++◌, drop}
use Rattle.fluid_scribe.proofs.tail.copied_messages.Given as goal

-- the copies so far, and what is left
abbrev pub invariant-loop-index : goal.invariant-loop-index
invariant-loop-index l = l.copies.items ++ drop l.index l.messages.items ≡ drop l.from l.messages.items
