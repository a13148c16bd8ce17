-- The five forms of an op, and which edit each spells.
use Rattle.std.specs.Prelude.{ℕ, ℤ, unsigned_abs, nat_le, List, [], ◌∷◌, Bool, false, Option, Some, None, option_and_then, if◌then◌else◌, find, bytes_eq, codes}
use Rattle.fluid_json.specs.Tree as json
use Rattle.fluid_json.specs.Tree.{Tree, text, whole, object, members, as_text, as_whole}
use Rattle.fluid_types.specs.Contents.{body}
use Rattle.fluid_types.specs.Forms.{largest}
use Rattle.fluid_types.specs.Names.{is_name}
use Rattle.fluid_types.specs.declared.messages.Kind.{Kind}
use Rattle.fluid_types.specs.declared.messages.Kind.TheVariants.{Op, Noop, Propose, Reject, Summarize, Join, Leave, SummaryAck, SummaryNack}
use Rattle.fluid_types.specs.declared.messages.Message.{Message}
use Rattle.fluid_edits.specs.declared.edit.ChannelKind.{ChannelKind}
use Rattle.fluid_edits.specs.declared.edit.ChannelKind.TheVariants.{Map, Counter}
use Rattle.fluid_edits.specs.declared.edit.Edit.{Edit}
use Rattle.fluid_edits.specs.declared.edit.Edit.TheVariants.{Attach, Set, Delete, Clear, Increment}
use Rattle.fluid_edits.specs.declared.reading.Verb.{Verb}
use Rattle.fluid_edits.specs.declared.reading.Verb.TheVariants as verb

-- one step after another: where the first gives nothing, nothing
infixl 1 ◌>>=◌
abbrev ◌>>=◌ : {A B : Type 0} → Option A → (A → Option B) → Option B
first >>= next = option_and_then next first

-- ---- words

abbrev pub kind_word : ChannelKind → List ℕ
kind_word Map = codes "map"
kind_word Counter = codes "counter"

abbrev pub kind_named : List ℕ → Option ChannelKind
kind_named word = find (λ kind. bytes_eq word (kind_word kind)) (Map ∷ Counter ∷ [])

-- what an op does to the channel that it speaks to
abbrev pub verb_word : Verb → List ℕ
verb_word verb.Set = codes "set"
verb_word verb.Delete = codes "delete"
verb_word verb.Clear = codes "clear"
verb_word verb.Increment = codes "increment"

abbrev pub verb_named : List ℕ → Option Verb
verb_named word = find (λ v. bytes_eq word (verb_word v)) (verb.Set ∷ verb.Delete ∷ verb.Clear ∷ verb.Increment ∷ [])

-- ---- edits

abbrev pub address_of : Edit → List ℕ
address_of (Attach address kind) = address
address_of (Set address key value) = address
address_of (Delete address key) = address
address_of (Clear address) = address
address_of (Increment address amount) = address

-- an amount of the protocol lies within plus or minus 2^53 - 1
abbrev pub is_in_range : ℤ → Bool
is_in_range amount = nat_le (unsigned_abs amount) largest

-- ---- members

-- the text in a member
abbrev pub text_at : List ℕ → Tree → Option (List ℕ)
text_at name t = do
  value ← json.find name t
  as_text value

-- the text in a member, where it is a name
abbrev pub name_at : List ℕ → Tree → Option (List ℕ)
name_at name t = do
  s ← text_at name t
  if is_name s then Some s else None

abbrev is_word : List ℕ → Option (List ℕ) → Bool
is_word word None = false
is_word word (Some s) = bytes_eq s word

-- ---- which edit is spelled

-- a body whose `type` is "attach" is looked at as an attach, and as nothing else; another `type` is passed over
abbrev pub is_attach : Tree → Bool
is_attach t = is_word (codes "attach") (text_at (codes "type") t)

-- {"type":"attach","address":A,"kind":"map"}, or "counter"
abbrev pub attaching : List ℕ → Tree → Option Edit
attaching address t = do
  word ← text_at (codes "kind") t
  kind ← kind_named word
  Some (Attach address kind)

-- {"type":"Plain","value":V}
abbrev pub plain : Tree → Option Tree
plain t = do
  word ← text_at (codes "type") t
  if bytes_eq word (codes "Plain") then json.find (codes "value") t else None

abbrev pub plain_value : Tree → Option Tree
plain_value t = do
  holder ← json.find (codes "value") t
  plain holder

-- {"type":"set","key":K,"value":{"type":"Plain","value":V}}
abbrev pub setting : List ℕ → Tree → Option Edit
setting address t = do
  key ← text_at (codes "key") t
  value ← plain_value t
  Some (Set address key value)

-- {"type":"delete","key":K}
abbrev pub deleting : List ℕ → Tree → Option Edit
deleting address t = do
  key ← text_at (codes "key") t
  Some (Delete address key)

-- {"type":"increment","incrementAmount":N}
abbrev pub incrementing : List ℕ → Tree → Option Edit
incrementing address t = do
  value ← json.find (codes "incrementAmount") t
  amount ← as_whole value
  Some (Increment address amount)

-- a clear is {"type":"clear"}
abbrev pub by_verb : List ℕ → Tree → Verb → Option Edit
by_verb address t verb.Set = setting address t
by_verb address t verb.Delete = deleting address t
by_verb address t verb.Clear = Some (Clear address)
by_verb address t verb.Increment = incrementing address t

abbrev pub spoken : List ℕ → Tree → Option Edit
spoken address t = do
  word ← text_at (codes "type") t
  v ← verb_named word
  by_verb address t v

-- {"address":A,"contents":C}
abbrev pub speaking : List ℕ → Tree → Option Edit
speaking address t = do
  contents ← json.find (codes "contents") t
  spoken address contents

-- the edit that a body spells, if it has one of the five forms
unfoldable pub edit_in : Tree → Option Edit
edit_in t = do
  address ← name_at (codes "address") t
  if is_attach t then attaching address t else speaking address t

-- what is said by an op, and nothing by messages of other kinds
abbrev pub of_op : {A : Type 0} → Kind → Option A → Option A
of_op Op said = said
of_op Noop said = None
of_op Propose said = None
of_op Reject said = None
of_op Summarize said = None
of_op Join said = None
of_op Leave said = None
of_op SummaryAck said = None
of_op SummaryNack said = None

-- the edit as which a message counts: that of the body of an op
abbrev pub edit_of : Message → Option Edit
edit_of m = of_op m.kind (edit_in (body m.contents))

-- ---- the contents of an edit's op

abbrev pub to_channel : List ℕ → List (List ℕ × Tree) → Tree
to_channel address contents = object (members ((codes "address", text address) ∷ (codes "contents", object (members contents)) ∷ []))

abbrev pub typed : List ℕ → List ℕ × Tree
typed word = (codes "type", text word)

unfoldable pub contents_of : Edit → Tree
contents_of (Attach address kind) = object (members ((codes "address", text address) ∷ (codes "kind", text (kind_word kind)) ∷ typed (codes "attach") ∷ []))
contents_of (Set address key value) =
    to_channel address
    ((codes "key", text key) ∷ typed (verb_word verb.Set) ∷ (codes "value", object (members (typed (codes "Plain") ∷ (codes "value", value) ∷ []))) ∷ [])
contents_of (Delete address key) = to_channel address ((codes "key", text key) ∷ typed (verb_word verb.Delete) ∷ [])
contents_of (Clear address) = to_channel address (typed (verb_word verb.Clear) ∷ [])
contents_of (Increment address amount) = to_channel address ((codes "incrementAmount", whole amount) ∷ typed (verb_word verb.Increment) ∷ [])
