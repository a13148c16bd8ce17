use Rattle.std.proofs.Common.{◌≡◌, length}
use Rattle.fluid_roamers.proofs.Taken.{HasTaken}
use Rattle.fluid_roamers.proofs.hearing.take_all.Given as goal

-- so many were taken in
abbrev pub invariant-loop-message : goal.invariant-loop-message
invariant-loop-message l = record {
  len : l.message-iterator.rest.len ≡ length l.message-iterator.rest.items;
  taken : HasTaken l.fn.messages.items l.message-iterator.rest.items l.fn.roamer l.roamer;
}
