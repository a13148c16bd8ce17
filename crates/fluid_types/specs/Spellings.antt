-- Which values spell a raw entry and a message, in tables: for each member its form, and what stands for a missing one.
-- An object may have further members.
use Rattle.std.specs.Prelude.{◌≡◌, ℕ, ℤ, pos, negsuc, ◌≤◌, ◌≤ℤ◌, List, Bool, Option, Some, None, IsSomeAnd, MatchOption, map}
use Rattle.fluid_json.specs.Tree.{Tree, null, boolean, whole, text, list, trees, find}
use Rattle.fluid_types.specs.Names.{IsName}
use Rattle.fluid_types.specs.Texts.{name_of}
use Rattle.fluid_types.specs.Forms.{largest}
use Rattle.fluid_types.specs.Words.{raw_word, offered_word, kind_word}
use Rattle.fluid_types.specs.declared.words.RawKind.{RawKind}
use Rattle.fluid_types.specs.declared.words.RawKind.TheVariants as raw
use Rattle.fluid_types.specs.Records.{scopes_of}
use Rattle.fluid_types.specs.declared.fault.Field.{Field}
use Rattle.fluid_types.specs.declared.fault.Field.TheVariants as field
use Rattle.fluid_types.specs.declared.entries.Scopes.{Scopes}
use Rattle.fluid_types.specs.declared.entries.Offered.{Offered}
use Rattle.fluid_types.specs.declared.messages.Kind.{Kind}
use Rattle.fluid_types.specs.declared.entries.Submission.{Submission}
use Rattle.fluid_types.specs.declared.entries.Raw.{Raw}
use Rattle.fluid_types.specs.declared.entries.Raw.TheVariants.{Join, Leave, Submit, Report}
use Rattle.fluid_types.specs.declared.messages.Message.{Message}

-- ---- members

-- the object has the member, and it spells a
abbrev pub Has : {A : Type 0} → Tree → Field → (A → Tree → Type 0) → A → Type 0
Has t f Spells a = IsSomeAnd (find (name_of f) t) (Spells a)

-- a value that may be missing spells a, and None where it is missing
abbrev pub SpellsOrMissing : {A : Type 0} → (A → Tree → Type 0) → Option A → Option Tree → Type 0
SpellsOrMissing Spells None value = value ≡ None
SpellsOrMissing Spells (Some a) value = IsSomeAnd value (Spells a)

abbrev pub MayHave : {A : Type 0} → Tree → Field → (A → Tree → Type 0) → Option A → Type 0
MayHave t f Spells a = SpellsOrMissing Spells a (find (name_of f) t)

-- the value is the member, and null where it is missing
abbrev pub IsMember : Tree → Field → Tree → Type 0
IsMember t f v = MatchOption (find (name_of f) t) (v ≡ null) (λ w. v ≡ w)

-- ---- forms

abbrev pub SpellsText : List ℕ → Tree → Type 0
SpellsText s t = t ≡ text s

abbrev pub SpellsTruth : Bool → Tree → Type 0
SpellsTruth b t = t ≡ boolean b

-- a text that is a name
pub record SpellsName (s : List ℕ) (t : Tree) : Type 0 where
  pub spelled : t ≡ text s
  pub name : IsName s

abbrev pub SpellsNameOrNull : Option (List ℕ) → Tree → Type 0
SpellsNameOrNull None t = t ≡ null
SpellsNameOrNull (Some s) t = SpellsName s t

-- a whole number from `low` to 2^53 - 1
pub record SpellsCount (low n : ℕ) (t : Tree) : Type 0 where
  pub spelled : t ≡ whole (pos n)
  pub least : low ≤ n
  pub most : n ≤ largest

-- a whole number from -1 to 2^53 - 1
pub record SpellsReference (n : ℤ) (t : Tree) : Type 0 where
  pub spelled : t ≡ whole n
  pub least : negsuc 0 ≤ℤ n
  pub most : n ≤ℤ pos largest

abbrev pub SpellsRawKind : RawKind → Tree → Type 0
SpellsRawKind kind t = t ≡ text (raw_word kind)

abbrev pub SpellsOffered : Offered → Tree → Type 0
SpellsOffered kind t = t ≡ text (offered_word kind)

abbrev pub SpellsKind : Kind → Tree → Type 0
SpellsKind kind t = t ≡ text (kind_word kind)

-- a list of texts; a scope is held where its word is among them
pub record SpellsScopes (scopes : Scopes) (t : Tree) : Type 0 where
  pub words : List (List ℕ)
  pub spelled : t ≡ list (trees (map text words))
  pub held : scopes ≡ scopes_of words

-- ---- records

pub record SpellsSubmission (s : Submission) (t : Tree) : Type 0 where
  pub its_client_number : Has t field.ClientSequenceNumber (SpellsCount 0) s.client_number
  pub its_contents : IsMember t field.Contents s.contents
  pub its_metadata : s.metadata ≡ find (name_of field.Metadata) t
  pub its_reference : Has t field.ReferenceSequenceNumber SpellsReference s.reference
  pub its_kind : Has t field.«Type» SpellsOffered s.kind

pub record SpellsJoin (id : List ℕ) (scopes : Scopes) (detail : Tree) (moment : ℕ) (t : Tree) : Type 0 where
  pub its_raw : Has t field.Raw SpellsRawKind raw.Join
  pub its_id : Has t field.ClientId SpellsName id
  pub its_detail : IsMember t field.Detail detail
  pub its_moment : Has t field.Moment (SpellsCount 0) moment
  pub its_scopes : Has t field.Scopes SpellsScopes scopes

pub record SpellsLeave (id : List ℕ) (moment : ℕ) (t : Tree) : Type 0 where
  pub its_raw : Has t field.Raw SpellsRawKind raw.Leave
  pub its_id : Has t field.ClientId SpellsName id
  pub its_moment : Has t field.Moment (SpellsCount 0) moment

pub record SpellsSubmit (id : List ℕ) (submission : Submission) (moment : ℕ) (t : Tree) : Type 0 where
  pub its_raw : Has t field.Raw SpellsRawKind raw.Submit
  pub its_id : Has t field.ClientId SpellsName id
  pub its_moment : Has t field.Moment (SpellsCount 0) moment
  pub its_operation : Has t field.Operation SpellsSubmission submission

pub record SpellsReport (summary : ℕ) (found : Bool) (moment : ℕ) (t : Tree) : Type 0 where
  pub its_raw : Has t field.Raw SpellsRawKind raw.Report
  pub its_found : Has t field.Found SpellsTruth found
  pub its_moment : Has t field.Moment (SpellsCount 0) moment
  pub its_summary : Has t field.Summary (SpellsCount 1) summary

abbrev pub SpellsRaw : Raw → Tree → Type 0
SpellsRaw (Join id scopes detail moment) t = SpellsJoin id scopes detail moment t
SpellsRaw (Leave id moment) t = SpellsLeave id moment t
SpellsRaw (Submit id submission moment) t = SpellsSubmit id submission moment t
SpellsRaw (Report summary found moment) t = SpellsReport summary found moment t

pub record SpellsMessage (m : Message) (t : Tree) : Type 0 where
  pub its_client : Has t field.ClientId SpellsNameOrNull m.client
  pub its_client_number : Has t field.ClientSequenceNumber SpellsReference m.client_number
  pub its_contents : IsMember t field.Contents m.contents
  pub its_system : MayHave t field.Data SpellsText m.system
  pub its_metadata : m.metadata ≡ find (name_of field.Metadata) t
  pub its_minimum : Has t field.MinimumSequenceNumber (SpellsCount 0) m.minimum
  pub its_reference : Has t field.ReferenceSequenceNumber SpellsReference m.reference
  pub its_number : Has t field.SequenceNumber (SpellsCount 0) m.number
  pub its_moment : Has t field.Timestamp (SpellsCount 0) m.moment
  pub its_kind : Has t field.«Type» SpellsKind m.kind
