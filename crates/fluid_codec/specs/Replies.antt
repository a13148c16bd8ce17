-- Replies that are sent: each is a list of its name and its arguments.
use Rattle.std.specs.Prelude.{ℕ, List, [], ◌∷◌, Bool, Option, Some, None, unwrap_or, map, codes, if◌then◌else◌}
use Rattle.hex.specs.Hex.{encode_lower}
use Rattle.fluid_json.specs.Tree.{Tree, null, text, list, object, trees, members}
use Rattle.fluid_json.specs.Printed as json
use Rattle.fluid_types.specs.Printed.{Row, row, count_tree, or_null, message_tree, nack_tree}
use Rattle.fluid_types.specs.declared.fault.Field.TheVariants as field
use Rattle.fluid_types.specs.declared.messages.Message.{Message}
use Rattle.fluid_codec.specs.EventWords.{mode_word}
use Rattle.fluid_codec.specs.declared.names.Mode.TheVariants as mode
use Rattle.fluid_codec.specs.declared.replies.Reply.{Reply}
use Rattle.fluid_codec.specs.declared.replies.Reply.TheVariants.{Connected, ConnectError, Ops, Nacked, Deltas, Summary, Object, Stored}

-- bytes as pairs of lower-case hexadecimal digits
abbrev pub hex_tree : List ℕ → Tree
hex_tree bytes = text (encode_lower bytes)

abbrev pub messages_tree : List Message → Tree
messages_tree ms = list (trees (map message_tree ms))

-- the most bytes of a text that a connection hears
abbrev pub longest_message : ℕ
longest_message = 1048576

unfoldable pub connected_rows : ℕ → Option (List ℕ) → Bool → List Row
connected_rows checkpoint id write =
    row field.CheckpointSequenceNumber (count_tree checkpoint)
    ∷ row field.ClientId (or_null text id)
    ∷ row field.MaxMessageSize (count_tree longest_message)
    ∷ row field.Mode (text (mode_word (if write then mode.Write else mode.Read)))
    ∷ row field.Version (text (codes "1"))
    ∷ []

unfoldable pub error_rows : ℕ → List ℕ → List Row
error_rows code reason = row field.Code (count_tree code) ∷ row field.Message (text reason) ∷ []

unfoldable pub reply_items : Reply → List Tree
reply_items (Connected checkpoint id write) = text (codes "connect_document_success") ∷ object (members (connected_rows checkpoint id write)) ∷ []
reply_items (ConnectError code reason) = text (codes "connect_document_error") ∷ object (members (error_rows code reason)) ∷ []
reply_items (Ops name messages) = text (codes "op") ∷ text name ∷ messages_tree messages ∷ []
reply_items (Nacked name nack) = text (codes "nack") ∷ text (unwrap_or name []) ∷ list (trees (nack_tree nack ∷ [])) ∷ []
reply_items (Deltas from messages) = text (codes "deltas") ∷ count_tree from ∷ messages_tree messages ∷ []
reply_items (Summary None) = text (codes "summary") ∷ null ∷ null ∷ []
reply_items (Summary (Some found)) = text (codes "summary") ∷ hex_tree found.0 ∷ count_tree found.1 ∷ []
reply_items (Object id bytes) = text (codes "object") ∷ hex_tree id ∷ or_null hex_tree bytes ∷ []
reply_items (Stored id) = text (codes "objectStored") ∷ hex_tree id ∷ []

abbrev pub reply_tree : Reply → Tree
reply_tree reply = list (trees (reply_items reply))

abbrev pub reply_printed : Reply → List ℕ
reply_printed reply = json.printed (reply_tree reply)
