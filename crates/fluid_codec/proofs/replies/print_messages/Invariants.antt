use Rattle.std.proofs.Common.{◌≡◌, ◌++◌, drop, map}
use Rattle.fluid_types.specs.Printed.{message_tree}
use Rattle.fluid_codec.specs.Rows.{items_tokens}
use Rattle.fluid_codec.proofs.replies.print_messages.Given as goal

-- what was printed, and behind it the messages that are left
abbrev pub invariant-loop-message : goal.invariant-loop-message
invariant-loop-message l = record {
  before : l.out.before ≡ l.initial.out.before;
  tokens : l.out.tokens ++ items_tokens (map message_tree (drop l.message-index l.messages)) ≡ l.initial.out.tokens ++ items_tokens (map message_tree l.messages);
}
