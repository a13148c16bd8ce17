use Rattle.std.proofs.Common.{◌≡◌, take}
use Rattle.fluid_loader.proofs.list_link.copied.Given as goal

-- the copies so far
abbrev pub invariant-loop-message : goal.invariant-loop-message
invariant-loop-message l = l.copies.items ≡ take l.message-index l.messages
