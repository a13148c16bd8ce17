-- The forms of JSON values and members: what a value of a form is read as, and the fault of a value that hasn't the form.
-- A definition of a record lists its members in the order in which they are looked at, and the first fault is the answer.
use Rattle.std.specs.Prelude.{ℕ, ℤ, pos, negsuc, List, [], ◌∷◌, Bool, ◌&&◌, nat_le, int_le, Option, Some, None, unwrap_or, find, Result, Ok, Err, if◌then◌else◌, bytes_eq}
use Rattle.std.specs.Option.{ok_or}
use Rattle.fluid_json.specs.Tree as json
use Rattle.fluid_json.specs.Spelled as spelled
use Rattle.fluid_json.specs.declared.fault.JsonFault.{JsonFault}
use Rattle.fluid_json.specs.declared.fault.JsonFault.TheVariants as unread
use Rattle.fluid_json.specs.Tree.{Tree, null, Trees, no_trees, tree, as_boolean, as_whole, as_text, as_trees, as_members}
use Rattle.fluid_types.specs.Names.{is_name}
use Rattle.fluid_types.specs.Texts.{name_of}
use Rattle.fluid_types.specs.declared.fault.Field.{Field}
use Rattle.fluid_types.specs.declared.fault.What.TheVariants.{Missing, NotText, NotWhole, NotList, NotObject, NotTruth, OutOfRange, NotAllowed, BadName}
use Rattle.fluid_types.specs.declared.fault.CodecFault.{CodecFault}
use Rattle.fluid_types.specs.declared.fault.CodecFault.TheVariants as codec
use Rattle.fluid_types.specs.declared.fault.CodecFault.TheVariants.{NotJson, TooDeep, BadField, NoMemory}

-- ---- reading: a value, or the first fault

abbrev pub Read : Type 0 → Type 0
Read A = Result A CodecFault

-- one step after another: a fault of the first is the answer
infixl 1 ◌>>=◌
abbrev pub ◌>>=◌ : {A B : Type 0} → Read A → (A → Read B) → Read B
Ok a >>= f = f a
Err e >>= f = Err e

-- A form reads the value of the named member.
abbrev pub Form : Type 0 → Type 0
Form A = Field → Tree → Read A

-- ---- texts: JSON first

abbrev pub read_as : Result Tree JsonFault → Read Tree
read_as (Ok t) = Ok t
read_as (Err unread.NotJson) = Err NotJson
read_as (Err unread.NotWhole) = Err codec.NotWhole
read_as (Err unread.TooDeep) = Err TooDeep
read_as (Err unread.NoMemory) = Err NoMemory

-- the value that a text from outside spells
unfoldable pub a_value : List ℕ → Read Tree
a_value s = read_as (spelled.answer s)

-- ---- the kinds of JSON values

abbrev pub a_truth : Form Bool
a_truth f t = ok_or (as_boolean t) (BadField f NotTruth)

abbrev pub a_whole : Form ℤ
a_whole f t = ok_or (as_whole t) (BadField f NotWhole)

abbrev pub a_text : Form (List ℕ)
a_text f t = ok_or (as_text t) (BadField f NotText)

abbrev pub a_list : Form Trees
a_list f t = ok_or (as_trees t) (BadField f NotList)

-- an object, to look for members in
abbrev pub an_object : Form Tree
an_object f t = as_object f t (as_members t)
  where
    as_object : Field → Tree → Option json.Members → Read Tree
    as_object f t None = Err (BadField f NotObject)
    as_object f t (Some _) = Ok t

-- ---- members

-- the value of a member that must be there
abbrev pub present : Field → Option Tree → Read Tree
present f value = ok_or value (BadField f Missing)

-- a member that must be there
abbrev pub required : {A : Type 0} → Tree → Field → Form A → Read A
required t f form = present f (json.find (name_of f) t) >>= form f

-- a member that may be missing
abbrev pub given : {A : Type 0} → Field → Form A → Option Tree → Read (Option A)
given f form None = Ok None
given f form (Some t) = form f t >>= λ a. Ok (Some a)

abbrev pub optional : {A : Type 0} → Tree → Field → Form A → Read (Option A)
optional t f form = given f form (json.find (name_of f) t)

-- a member of any form; a missing one is null
abbrev pub any : Tree → Field → Tree
any t f = unwrap_or (json.find (name_of f) t) null

-- a member of any form; a missing one is absent
abbrev pub if_any : Tree → Field → Option Tree
if_any t f = json.find (name_of f) t

-- ---- forms

-- the largest number of the protocol, 2^53 - 1: the last up to which each whole number is a double
abbrev pub largest : ℕ
largest = 9007199254740991

-- a whole number from `low` to 2^53 - 1
abbrev pub within : ℤ → Form ℤ
within low f t = do
  n ← a_whole f t
  if int_le low n && int_le n (pos largest) then Ok n else Err (BadField f OutOfRange)

-- a whole number from `low` to 2^53 - 1, where `low` isn't negative
abbrev pub counted : ℕ → Field → ℤ → Read ℕ
counted low f (pos n) = if nat_le low n && nat_le n largest then Ok n else Err (BadField f OutOfRange)
counted low f (negsuc n) = Err (BadField f OutOfRange)

abbrev pub count : ℕ → Form ℕ
count low f t = a_whole f t >>= counted low f

abbrev pub name : Form (List ℕ)
name f t = do
  s ← a_text f t
  if is_name s then Ok s else Err (BadField f BadName)

abbrev pub name_or_null : Form (Option (List ℕ))
name_or_null f t = if json.is_null t then Ok None else (name f t >>= λ s. Ok (Some s))

-- one of the values of this list, by its word
abbrev pub one_of : {A : Type 0} → (A → List ℕ) → List A → Form A
one_of word all f t = do
  s ← a_text f t
  ok_or (find (λ a. bytes_eq s (word a)) all) (BadField f NotAllowed)

-- the texts of a list of texts, looked at from first to last
unfoldable pub texts : Field → Trees → Read (List (List ℕ))
texts f no_trees = Ok []
texts f (tree t ts) = do
  s ← a_text f t
  ss ← texts f ts
  Ok (s ∷ ss)
