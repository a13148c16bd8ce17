use Rattle.std.proofs.Common.{◌≡◌, ◌++◌, List, length}
use Rattle.fluid_codec.specs.declared.replies.Reply.{Reply}
use Rattle.fluid_connection.proofs.telling.add.Given as goal

-- a prefix is said, and behind it is what is left
abbrev pub invariant-loop-reply : goal.invariant-loop-reply
invariant-loop-reply l = record {
  len : l.reply-iterator.rest.len ≡ length l.reply-iterator.rest.items;
  said : (prefix : List Reply) × ((l.replies.items ≡ l.fn.replies.items ++ prefix) × (l.fn.more ≡ prefix ++ l.reply-iterator.rest.items));
}
