use Rattle.std.proofs.Common.{◌≡◌, take}
use Rattle.fluid_feed.specs.Tails.{with_more}
use Rattle.fluid_feed.proofs.tail.Tail.extend.Given as goal

abbrev pub invariant-loop-message : goal.invariant-loop-message
invariant-loop-message l = l.self ≡ with_more (take l.message-index l.messages) l.fn.self
