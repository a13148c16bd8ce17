use Rattle.std.proofs.Common.{◌≡◌, take}
use Rattle.fluid_scribe.proofs.waiting.copied_acks.Given as goal

-- the copies so far
abbrev pub invariant-loop-ack : goal.invariant-loop-ack
invariant-loop-ack l = l.copies.items ≡ take l.ack-index l.acks
