-- Events that are heard: a list whose first item is the name and whose others are the arguments. Arguments are looked at from
-- left to right, members in byte order of their names, items from first to last, and the first fault is the answer. Arguments
-- beyond those that a table names are passed over.
use Rattle.std.specs.Prelude.{ℕ, List, [], ◌∷◌, ◌++◌, Bool, ◌&&◌, nat_le, true, false, Option, Some, None, option_and_then, find, Ok, if◌then◌else◌, bytes_eq}
use Rattle.std.specs.List.{list_any}
use Rattle.std.specs.Option.{ok_or}
use Rattle.std.specs.Result.{result_ok}
use Rattle.hex.specs.Hex.{decode_of, decode_sized}
use Rattle.fluid_json.specs.Tree.{Tree, Trees, no_trees, tree, as_text, as_trees}
use Rattle.fluid_types.specs.Forms.{Read, ◌>>=◌, Form, a_value, a_whole, a_text, a_list, an_object, required, optional, any, name, one_of}
use Rattle.fluid_types.specs.Records.{held_scopes, submission}
use Rattle.fluid_types.specs.declared.fault.Field.{Field}
use Rattle.fluid_types.specs.declared.fault.Field.TheVariants as field
use Rattle.fluid_types.specs.declared.fault.What.TheVariants.{NotAllowed}
use Rattle.fluid_types.specs.declared.fault.CodecFault.TheVariants.{UnknownEvent, BadField}
use Rattle.fluid_types.specs.declared.entries.Submission.{Submission}
use Rattle.fluid_codec.specs.declared.names.EventName.{EventName}
use Rattle.fluid_codec.specs.declared.names.EventName.TheVariants as heard
use Rattle.fluid_codec.specs.declared.names.Mode.{Mode}
use Rattle.fluid_codec.specs.declared.names.Mode.TheVariants as mode
use Rattle.fluid_codec.specs.declared.events.Asked.{Asked}
use Rattle.fluid_codec.specs.declared.events.Asked.TheVariants.{Latest, Handle}
use Rattle.fluid_codec.specs.declared.events.Event.{Event}
use Rattle.fluid_codec.specs.declared.events.Event.TheVariants.{Connect, SubmitOp, GetDeltas, GetSummary, GetObject, PutObject}
use Rattle.fluid_codec.specs.Items.{item, argument}
use Rattle.fluid_codec.specs.EventWords.{event_word, event_names, mode_word, modes, latest}

-- ---- forms

-- the letters `A` to `F`
abbrev pub is_upper : ℕ → Bool
is_upper c = nat_le 65 c && nat_le c 70

-- the bytes of 2 n hexadecimal digits, none of them an upper-case letter
abbrev pub lower_hex : ℕ → List ℕ → Option (List ℕ)
lower_hex n s = if list_any is_upper s then None else result_ok (decode_sized s n)

-- an id: 40 digits
abbrev pub an_id : Form (List ℕ)
an_id f t = do
  s ← a_text f t
  ok_or (lower_hex 20 s) (BadField f NotAllowed)

-- any bytes, each as two digits of either case
abbrev pub hex_bytes : Form (List ℕ)
hex_bytes f t = do
  s ← a_text f t
  ok_or (result_ok (decode_of s)) (BadField f NotAllowed)

-- the latest summary, or one by its id
abbrev pub asked : Form Asked
asked f t = do
  s ← a_text f t
  if bytes_eq s latest then Ok Latest else (ok_or (lower_hex 20 s) (BadField f NotAllowed) >>= λ id. Ok (Handle id))

-- ---- submissions, alone or in lists

-- what is read of each item, one after another
unfoldable pub each : {A : Type 0} → (Tree → Read (List A)) → Trees → Read (List A)
each read no_trees = Ok []
each read (tree t ts) = do
  prefix ← read t
  rest ← each read ts
  Ok (prefix ++ rest)

abbrev pub alone : Form (List Submission)
alone f t = do
  s ← submission f t
  Ok (s ∷ [])

-- an item that is a list holds submissions, and another is one
abbrev pub batch_of : Field → Tree → Option Trees → Read (List Submission)
batch_of f t None = alone f t
batch_of f t (Some ts) = each (alone f) ts

abbrev pub batch : Form (List Submission)
batch f t = batch_of f t (as_trees t)

abbrev pub batches : Form (List Submission)
batches f t = do
  ts ← a_list f t
  each (batch f) ts

-- ---- events

-- a missing mode is "write"
abbrev pub writes : Option Mode → Bool
writes None = true
writes (Some mode.Read) = false
writes (Some mode.Write) = true

unfoldable pub connect_document : Tree → Read Event
connect_document t = do
  o ← argument t 1 field.Connect an_object
  let client = any o field.Client
  id ← required o field.Id name
  mode ← optional o field.Mode (one_of mode_word modes)
  scopes ← required o field.Scopes held_scopes
  Ok (Connect id (writes mode) scopes client)

unfoldable pub submit_op : Tree → Read Event
submit_op t = do
  id ← argument t 1 field.ClientId name
  submissions ← argument t 2 field.Messages batches
  Ok (SubmitOp id submissions)

unfoldable pub get_deltas : Tree → Read Event
get_deltas t = do
  from ← argument t 1 field.From a_whole
  to ← argument t 2 field.To a_whole
  Ok (GetDeltas from to)

unfoldable pub get_summary : Tree → Read Event
get_summary t = do
  pick ← argument t 1 field.Pick asked
  Ok (GetSummary pick)

unfoldable pub get_object : Tree → Read Event
get_object t = do
  id ← argument t 1 field.Id an_id
  Ok (GetObject id)

unfoldable pub put_object : Tree → Read Event
put_object t = do
  bytes ← argument t 1 field.Object hex_bytes
  Ok (PutObject bytes)

abbrev pub event_of : EventName → Tree → Read Event
event_of heard.ConnectDocument = connect_document
event_of heard.SubmitOp = submit_op
event_of heard.GetDeltas = get_deltas
event_of heard.GetSummary = get_summary
event_of heard.GetObject = get_object
event_of heard.PutObject = put_object

-- the name, which is the first item
abbrev pub event_named : Tree → Option EventName
event_named t = option_and_then (λ s. find (λ n. bytes_eq s (event_word n)) event_names) (option_and_then as_text (item 0 t))

abbrev pub event_name : Tree → Read EventName
event_name t = ok_or (event_named t) UnknownEvent

unfoldable pub event : Tree → Read Event
event t = do
  n ← event_name t
  event_of n t

-- the event that a text spells, or the first fault of a text that spells none
abbrev pub event_spelled : List ℕ → Read Event
event_spelled s = do
  t ← a_value s
  event t
