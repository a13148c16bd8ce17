-- Sequenced messages: which value is read as which message, and which fault comes first. Members are looked at in byte order
-- of their names.
use Rattle.std.specs.Prelude.{ℕ, List, negsuc, Ok}
use Rattle.fluid_types.specs.Forms.{Read, a_value, ◌>>=◌, Form, a_text, an_object, required, optional, any, if_any, within, count, name_or_null, one_of}
use Rattle.fluid_types.specs.Words.{kind_word, kinds}
use Rattle.fluid_types.specs.declared.fault.Field.TheVariants as field
use Rattle.fluid_types.specs.declared.messages.Message.{Message}

unfoldable pub message : Form Message
message f t = do
  o ← an_object f t
  client ← required o field.ClientId name_or_null
  client_number ← required o field.ClientSequenceNumber (within (negsuc 0))
  let contents = any o field.Contents
  system ← optional o field.Data a_text
  let metadata = if_any o field.Metadata
  minimum ← required o field.MinimumSequenceNumber (count 0)
  reference ← required o field.ReferenceSequenceNumber (within (negsuc 0))
  number ← required o field.SequenceNumber (count 0)
  moment ← required o field.Timestamp (count 0)
  kind ← required o field.«Type» (one_of kind_word kinds)
  Ok (record {
    client = client;
    client_number = client_number;
    reference = reference;
    number = number;
    minimum = minimum;
    kind = kind;
    contents = contents;
    system = system;
    metadata = metadata;
    moment = moment;
  })

-- the message that a text spells, or the first fault of a text that spells none
abbrev pub message_spelled : List ℕ → Read Message
message_spelled s = do
  t ← a_value s
  message field.Message t
