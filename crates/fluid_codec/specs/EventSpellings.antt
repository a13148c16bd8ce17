-- Which values spell an event: a list whose first item is the name and whose others are the arguments, in tables, for each argument
-- its form. The list may have further items, and an object further members.
use Rattle.std.specs.Prelude.{◌≡◌, ℕ, ◌+◌, ◌⊎◌, ⊤, ℤ, List, [], ◌∷◌, ◌++◌, ◌&&◌, nat_le, length, map, Bool, true, IsSomeAnd, MatchOption, if◌then◌else◌}
use Rattle.hex.specs.Hex.{IsBytes, encode_lower}
use Rattle.fluid_json.specs.Tree.{Tree, whole, text, list, find, Trees, no_trees, tree}
use Rattle.fluid_types.specs.Texts.{name_of}
use Rattle.fluid_types.specs.Spellings.{Has, IsMember, SpellsName, SpellsScopes, SpellsSubmission}
use Rattle.fluid_types.specs.declared.fault.Field.TheVariants as field
use Rattle.fluid_types.specs.declared.entries.Scopes.{Scopes}
use Rattle.fluid_types.specs.declared.entries.Submission.{Submission}
use Rattle.fluid_codec.specs.declared.names.EventName.{EventName}
use Rattle.fluid_codec.specs.declared.names.EventName.TheVariants as heard
use Rattle.fluid_codec.specs.declared.names.Mode.TheVariants as mode
use Rattle.fluid_codec.specs.declared.events.Asked.{Asked}
use Rattle.fluid_codec.specs.declared.events.Asked.TheVariants.{Latest, Handle}
use Rattle.fluid_codec.specs.declared.events.Event.{Event}
use Rattle.fluid_codec.specs.declared.events.Event.TheVariants.{Connect, SubmitOp, GetDeltas, GetSummary, GetObject, PutObject}
use Rattle.fluid_codec.specs.Items.{item}
use Rattle.fluid_codec.specs.EventWords.{event_word, mode_word, latest}

-- ---- arguments

-- the list has an item at this place, from 0, and it is so
abbrev pub HasItem : Tree → ℕ → (Tree → Type 0) → Type 0
HasItem t n Is = IsSomeAnd (item n t) Is

abbrev pub IsNamed : EventName → Tree → Type 0
IsNamed name t = HasItem t 0 (λ u. u ≡ text (event_word name))

-- ---- forms

abbrev pub SpellsWhole : ℤ → Tree → Type 0
SpellsWhole n t = t ≡ whole n

-- an id: 20 bytes, each as two hexadecimal digits in lower case
pub record SpellsId (id : List ℕ) (t : Tree) : Type 0 where
  pub spelled : t ≡ text (encode_lower id)
  pub bytes : IsBytes id
  pub size : length id ≡ 20

-- a hexadecimal digit with its letter in lower case
abbrev pub in_lower_case : ℕ → ℕ
in_lower_case c = if nat_le 65 c && nat_le c 70 then c + 32 else c

-- any bytes, each as two hexadecimal digits in either case
pub record SpellsBytes (bytes : List ℕ) (t : Tree) : Type 0 where
  pub digits : List ℕ
  pub spelled : t ≡ text digits
  pub in_lower : map in_lower_case digits ≡ encode_lower bytes
  pub all_bytes : IsBytes bytes

abbrev pub SpellsAsked : Asked → Tree → Type 0
SpellsAsked Latest t = t ≡ text latest
SpellsAsked (Handle id) t = SpellsId id t

-- each spells the value at its place, and there are as many
abbrev pub SpellEach : {A : Type 0} → (A → Tree → Type 0) → List A → Trees → Type 0
SpellEach Spells [] no_trees = ⊤
SpellEach Spells [] (tree t ts) = ⊥
SpellEach Spells (a ∷ rest) no_trees = ⊥
SpellEach Spells (a ∷ rest) (tree t ts) = Spells a t × SpellEach Spells rest ts

-- one submission
pub record SpellsAlone (part : List Submission) (t : Tree) : Type 0 where
  pub one : Submission
  pub part_is : part ≡ one ∷ []
  pub spelled : SpellsSubmission one t

-- a list of submissions
pub record SpellsList (part : List Submission) (t : Tree) : Type 0 where
  pub items : Trees
  pub spelled : t ≡ list items
  pub each : SpellEach SpellsSubmission part items

abbrev pub SpellsPart : List Submission → Tree → Type 0
SpellsPart part t = SpellsAlone part t ⊎ SpellsList part t

-- these lists, one behind another
abbrev pub joined : {A : Type 0} → List (List A) → List A
joined [] = []
joined (part ∷ parts) = part ++ joined parts

-- a list of submissions and of lists of them, joined into one list in their order
pub record SpellsBatches (submissions : List Submission) (t : Tree) : Type 0 where
  pub items : Trees
  pub parts : List (List Submission)
  pub spelled : t ≡ list items
  pub each : SpellEach SpellsPart parts items
  pub in_order : submissions ≡ joined parts

-- ---- events

-- a missing mode is "write"
pub record SpellsConnection (name : List ℕ) (write : Bool) (scopes : Scopes) (client : Tree) (t : Tree) : Type 0 where
  pub its_client : IsMember t field.Client client
  pub its_name : Has t field.Id SpellsName name
  pub its_mode : MatchOption (find (name_of field.Mode) t) (write ≡ true) (λ m. m ≡ text (mode_word (if write then mode.Write else mode.Read)))
  pub its_scopes : Has t field.Scopes SpellsScopes scopes

pub record SpellsConnect (name : List ℕ) (write : Bool) (scopes : Scopes) (client : Tree) (t : Tree) : Type 0 where
  pub named : IsNamed heard.ConnectDocument t
  pub its_connection : HasItem t 1 (SpellsConnection name write scopes client)

pub record SpellsSubmitOp (id : List ℕ) (submissions : List Submission) (t : Tree) : Type 0 where
  pub named : IsNamed heard.SubmitOp t
  pub its_id : HasItem t 1 (SpellsName id)
  pub its_messages : HasItem t 2 (SpellsBatches submissions)

pub record SpellsGetDeltas (from to : ℤ) (t : Tree) : Type 0 where
  pub named : IsNamed heard.GetDeltas t
  pub its_from : HasItem t 1 (SpellsWhole from)
  pub its_to : HasItem t 2 (SpellsWhole to)

pub record SpellsGetSummary (asked : Asked) (t : Tree) : Type 0 where
  pub named : IsNamed heard.GetSummary t
  pub its_pick : HasItem t 1 (SpellsAsked asked)

pub record SpellsGetObject (id : List ℕ) (t : Tree) : Type 0 where
  pub named : IsNamed heard.GetObject t
  pub its_id : HasItem t 1 (SpellsId id)

pub record SpellsPutObject (bytes : List ℕ) (t : Tree) : Type 0 where
  pub named : IsNamed heard.PutObject t
  pub its_object : HasItem t 1 (SpellsBytes bytes)

abbrev pub SpellsEvent : Event → Tree → Type 0
SpellsEvent (Connect name write scopes client) t = SpellsConnect name write scopes client t
SpellsEvent (SubmitOp id submissions) t = SpellsSubmitOp id submissions t
SpellsEvent (GetDeltas from to) t = SpellsGetDeltas from to t
SpellsEvent (GetSummary asked) t = SpellsGetSummary asked t
SpellsEvent (GetObject id) t = SpellsGetObject id t
SpellsEvent (PutObject bytes) t = SpellsPutObject bytes t
