-- What the text of a checkpoint says, or its first fault: bad text, then the version, then the other members in byte order of
-- their names. Members that no form names are passed over.
use Rattle.std.specs.Prelude.{ℕ, ℤ, pos, negsuc, ◌==◌, nat_le, List, [], ◌∷◌, ◌++◌, map, Bool, true, false, Option, Some, None, option_and_then, Result, Ok, Err, is_some, bytes_eq, if◌then◌else◌, codes}
use Rattle.std.specs.Option.{ok_or}
use Rattle.std.specs.Result.{result_ok}
use Rattle.std.specs.Ordering.{nat_cmp}
use Rattle.std.specs.Str.{is_utf8}
use Rattle.std.specs.FinMap.{from_entries, is_sorted}
use Rattle.fluid_table.specs.Table.{byte_order}
use Rattle.fluid_json.specs.Tree.{Tree, list, object, Trees, no_trees, tree, members, find, as_boolean, as_whole, as_text, as_trees, as_members}
use Rattle.fluid_json.specs.Printed.{printed}
use Rattle.fluid_json.specs.Spelled.{answer_stored}
use Rattle.fluid_json.specs.declared.fault.JsonFault.{JsonFault}
use Rattle.fluid_types.specs.Forms.{largest}
use Rattle.fluid_types.specs.Messages.{message as a_message}
use Rattle.fluid_types.specs.Quorum.{Quorum, as_name}
use Rattle.fluid_types.specs.Printed.{Row as Pair, row_if_any}
use Rattle.fluid_types.specs.Texts.{name_of}
use Rattle.fluid_types.specs.Words.{blob_word, read_word, write_word, summary_word}
use Rattle.fluid_types.specs.declared.entries.Scopes.{Scopes}
use Rattle.fluid_types.specs.declared.fault.Field.{Field}
use Rattle.fluid_types.specs.declared.fault.Field.TheVariants as field
use Rattle.fluid_types.specs.declared.messages.Kind.{Kind}
use Rattle.fluid_types.specs.declared.messages.Message.{Message}
use Rattle.fluid_types.specs.declared.quorum.QuorumBlob.{QuorumBlob}
use Rattle.fluid_types.specs.declared.quorum.QuorumBlob.TheVariants as blob
use Rattle.fluid_tree.specs.Ids.{id_read}
use Rattle.fluid_tree.specs.declared.id.SummaryRef.{SummaryRef}
use Rattle.fluid_clients.specs.declared.table.Row.{Row}
use Rattle.fluid_quorum.specs.Node.{tree_of}
use Rattle.fluid_quorum.specs.Reading as blobs
use Rattle.fluid_rules.specs.Scribe.{is_summarize}
use Rattle.fluid_scribe.specs.State.{is_heard}
use Rattle.fluid_checkpoint.specs.declared.fault.CheckpointFault.{CheckpointFault}
use Rattle.fluid_checkpoint.specs.declared.fault.CheckpointFault.TheVariants as fault
use Rattle.fluid_checkpoint.specs.declared.fault.CheckpointFault.TheVariants.{BadText, BadField}
use Rattle.fluid_checkpoint.specs.declared.state.State.{State}
use Rattle.fluid_checkpoint.specs.declared.state.Form.{Form}
use Rattle.fluid_checkpoint.specs.declared.state.Form.TheVariants as form
use Rattle.fluid_checkpoint.specs.declared.version.Version.{Version}
use Rattle.fluid_checkpoint.specs.declared.version.Version.TheVariants.{One, Two}
use Rattle.fluid_checkpoint.specs.Heard.{Moments, with_moments}

-- ---- forms of values

-- where the first gives nothing, nothing
infixl 1 ◌>>?◌
abbrev pub ◌>>?◌ : {A B : Type 0} → Option A → (A → Option B) → Option B
first >>? next = option_and_then next first

-- the member of this name, in its form
abbrev pub member : {A : Type 0} → List ℕ → (Tree → Option A) → Tree → Option A
member name form t = find name t >>? form

-- a whole number from 0 to 2^53 - 1
abbrev pub within : ℤ → Option ℕ
within (pos n) = if nat_le n largest then Some n else None
within (negsuc n) = None

abbrev pub count : Tree → Option ℕ
count t = as_whole t >>? within

-- each item of a list in its form
abbrev pub each : {A : Type 0} → (Tree → Option A) → Trees → Option (List A)
each form no_trees = Some []
each form (tree t ts) = form t >>? λ a. each form ts >>? λ rest. Some (a ∷ rest)

abbrev pub listed : {A : Type 0} → (Tree → Option A) → Tree → Option (List A)
listed form t = as_trees t >>? each form

-- a list that passes a test
abbrev pub only_if : {A : Type 0} → (List A → Bool) → List A → Option (List A)
only_if test xs = if test xs then Some xs else None

-- ---- items

abbrev pub handle : Tree → Option (List ℕ)
handle t = as_text t >>? id_read

unfoldable pub ack : Tree → Option SummaryRef
ack t =
    member (codes "handle") handle t >>? λ handle.
    member (codes "number") count t >>? λ number.
    Some (record { handle = handle; number = number })

-- whether the first of these values is this word, and those that are left then
abbrev pub is_word : List ℕ → Option (List ℕ) → Bool
is_word word None = false
is_word word (Some s) = bytes_eq s word

abbrev pub led_by : List ℕ → Trees → Bool
led_by word no_trees = false
led_by word (tree t ts) = is_word word (as_text t)

abbrev pub others : Trees → Trees
others no_trees = no_trees
others (tree t ts) = ts

abbrev pub left : List ℕ → Trees → Trees
left word ts = if led_by word ts then others ts else ts

abbrev pub are_none : Trees → Bool
are_none no_trees = true
are_none (tree t ts) = false

-- the held scopes, in their order and each once
abbrev pub held : Trees → Option Scopes
held ts =
    let behind_read = left read_word ts in
    let behind_write = left write_word behind_read in
    if are_none (left summary_word behind_write)
    then Some (record { read = led_by read_word ts; write = led_by write_word behind_read; summary = led_by summary_word behind_write })
    else None

abbrev pub scopes : Tree → Option Scopes
scopes t = as_trees t >>? held

-- nothing is said yet of when it was heard
unfoldable pub client : Tree → Option (List ℕ × Row)
client t =
    member (codes "id") as_name t >>? λ id.
    member (codes "last") count t >>? λ last.
    member (codes "nacked") as_boolean t >>? λ nacked.
    member (codes "reference") count t >>? λ reference.
    member (codes "scopes") scopes t >>? λ scopes.
    Some (id, record { last = last; reference = reference; nacked = nacked; scopes = scopes; heard = 0 })

unfoldable pub moment : Tree → Option (List ℕ × ℕ)
moment t =
    member (codes "id") as_name t >>? λ id.
    member (codes "moment") count t >>? λ moment.
    Some (id, moment)

-- exactly two numbers
abbrev pub pair : Trees → Option (ℕ × ℕ)
pair no_trees = None
pair (tree t no_trees) = None
pair (tree t (tree u no_trees)) = count t >>? λ number. count u >>? λ minimum. Some (number, minimum)
pair (tree t (tree u (tree v ts))) = None

abbrev pub change : Tree → Option (ℕ × ℕ)
change t = as_trees t >>? pair

-- a message of such a kind
unfoldable pub message : (Kind → Bool) → Tree → Option Message
message is_such t =
    result_ok (a_message field.Message t) >>? λ m.
    if is_such m.kind then Some m else None

-- ---- the members of a checkpoint; ids, and the numbers of messages and changes, strictly rise

abbrev pub acks : Tree → Option (List SummaryRef)
acks = listed ack

-- the members that the values of a blob have
abbrev pub fields_of : QuorumBlob → List Field
fields_of blob.Attributes = field.MinimumSequenceNumber ∷ field.SequenceNumber ∷ []
fields_of blob.Members = field.ClientId ∷ field.Detail ∷ field.SequenceNumber ∷ []
fields_of blob.Proposals = field.Key ∷ field.SequenceNumber ∷ field.Value ∷ []
fields_of blob.Values = field.ApprovalSequenceNumber ∷ field.Key ∷ field.SequenceNumber ∷ field.Value ∷ []

-- those of them that an object has
abbrev pub those : List Field → Tree → List Pair
those [] t = []
those (f ∷ fs) t = row_if_any f (find (name_of f) t) ++ those fs t

-- an object without its other members; another value as it is
abbrev pub trimmed : List Field → Tree → Tree
trimmed fields t = if is_some (as_members t) then object (members (those fields t)) else t

abbrev pub each_trimmed : List Field → Trees → Trees
each_trimmed fields no_trees = no_trees
each_trimmed fields (tree t ts) = tree (trimmed fields t) (each_trimmed fields ts)

-- so each item of a list
abbrev pub items_trimmed : List Field → Option Trees → Tree → Tree
items_trimmed fields None t = t
items_trimmed fields (Some ts) t = list (each_trimmed fields ts)

-- the value of a blob without members that it hasn't
abbrev pub own : QuorumBlob → Tree → Tree
own blob.Attributes t = trimmed (fields_of blob.Attributes) t
own blob.Members t = items_trimmed (fields_of blob.Members) (as_trees t) t
own blob.Proposals t = items_trimmed (fields_of blob.Proposals) (as_trees t) t
own blob.Values t = items_trimmed (fields_of blob.Values) (as_trees t) t

-- and so the blob with its text
abbrev pub blob_of : QuorumBlob → Tree → Option (List ℕ × List ℕ)
blob_of b t = member (blob_word b) (λ value. Some (blob_word b, printed (own b value))) t

unfoldable pub base : Tree → Option Quorum
base t =
    blob_of blob.Attributes t >>? λ attributes.
    blob_of blob.Members t >>? λ members.
    blob_of blob.Proposals t >>? λ proposals.
    blob_of blob.Values t >>? λ values.
    result_ok (blobs.answer (tree_of (attributes ∷ members ∷ proposals ∷ values ∷ [])))

abbrev pub are_numbered : List Message → Bool
are_numbered ms = is_sorted nat_cmp (map (λ m. (m.number, m)) ms)

unfoldable pub messages : (Kind → Bool) → Tree → Option (List Message)
messages is_such t = listed (message is_such) t >>? only_if are_numbered

-- joins, leaves and proposes
abbrev pub behind : Tree → Option (List Message)
behind = messages is_heard

abbrev pub pending : Tree → Option (List Message)
pending = messages is_summarize

unfoldable pub clients : Tree → Option (List (List ℕ × Row))
clients t = listed client t >>? only_if (is_sorted byte_order)

unfoldable pub moments : Tree → Option Moments
moments t = listed moment t >>? only_if (is_sorted byte_order)

unfoldable pub minima : Tree → Option (List (ℕ × ℕ))
minima t = listed change t >>? only_if (is_sorted nat_cmp)

-- ---- reading: a value, or the first fault

abbrev pub Read : Type 0 → Type 0
Read A = Result A CheckpointFault

infixl 1 ◌>>=◌
abbrev pub ◌>>=◌ : {A B : Type 0} → Read A → (A → Read B) → Read B
Ok a >>= f = f a
Err fault >>= f = Err fault

-- a member that has to be there, in its form
abbrev pub at : {A : Type 0} → List ℕ → (Tree → Option A) → Tree → Read A
at name form t = ok_or (member name form t) (BadField name)

-- another version than these two is refused, and a negative one is told as 0
abbrev pub known : ℕ → Read Version
known n = if n == 1 then Ok One else (if n == 2 then Ok Two else Err (fault.Version n))

abbrev pub of_whole : ℤ → Read Version
of_whole (pos n) = known n
of_whole (negsuc n) = Err (fault.Version 0)

abbrev pub version_in : Tree → Read Version
version_in t = at (codes "version") as_whole t >>= of_whole

-- version 1 has no moments
abbrev pub heard_in : Version → Tree → Read Moments
heard_in One t = Ok []
heard_in Two t = at (codes "heard") moments t

unfoldable pub state_in : Version → Tree → Read State
state_in version t = do
  acks ← at (codes "acks") acks t
  base ← at (codes "base") base t
  behind ← at (codes "behind") behind t
  clients ← at (codes "clients") clients t
  counted ← at (codes "counted") count t
  entered ← at (codes "entered") count t
  heard ← heard_in version t
  minima ← at (codes "minima") minima t
  minimum ← at (codes "minimum") count t
  pending ← at (codes "pending") pending t
  sequence ← at (codes "sequence") count t
  Ok (record {
    entered = entered;
    counted = counted;
    sequencer = record { sequence = sequence; minimum = minimum; rows = with_moments (from_entries clients) heard };
    scribe = record { base = base; behind = behind; minima = minima; pending = pending; acks = acks };
    heard = heard;
  })

-- of version 1 the number of entries counts alone
abbrev pub form_of : Version → State → Form
form_of One s = form.One s.entered
form_of Two s = form.Two s

abbrev pub form_in : Tree → Read Form
form_in t = do
  version ← version_in t
  state ← state_in version t
  Ok (form_of version state)

-- the value counts where it is an object
abbrev pub object_of : Tree → Read Tree
object_of t = if is_object (as_members t) then Ok t else Err BadText
  where
    is_object : {A : Type 0} → Option A → Bool
    is_object None = false
    is_object (Some ms) = true

abbrev pub of_value : Result Tree JsonFault → Read Tree
of_value (Ok t) = object_of t
of_value (Err fault) = Err BadText

-- the object that a text spells
abbrev pub value_in : List ℕ → Read Tree
value_in s = of_value (answer_stored s)

abbrev pub text_answer : List ℕ → Read Form
text_answer s = value_in s >>= form_in

-- what the bytes say
unfoldable pub answer : List ℕ → Read Form
answer bytes = if is_utf8 bytes then text_answer bytes else Err BadText
