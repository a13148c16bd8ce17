-- The text of an op event, out of those of its messages.
use Rattle.std.proofs.Common.{◌≡◌, ℕ, List, ◌++◌, map, append_assoc, append-nil, refl}
use Rattle.std.specs.Prelude.{codes}
use Rattle.json.specs.Print.{escape_byte}
use Rattle.fluid_json.specs.Tree.{text, trees}
use Rattle.fluid_json.specs.Printed.{printed, printed_items}
use Rattle.fluid_types.specs.declared.messages.Message.{Message}
use Rattle.fluid_types.specs.Printed.{message_tree}
use Rattle.fluid_codec.specs.Replies.{reply_printed, reply_items}
use Rattle.fluid_codec.specs.declared.replies.Reply.TheVariants.{Ops}

-- the event's name, the document's name, and the messages
pub event-is : (name : List ℕ) (ms : List Message)
    → (((codes "[\"op\"," ++ printed (text name)) ++ codes ",[") ++ printed_items (trees (map message_tree ms))) ++ codes "]]" ≡ reply_printed (Ops name ms)
unfolding reply_items escape_byte
event-is name ms = simp (append_assoc, append-nil) refl
