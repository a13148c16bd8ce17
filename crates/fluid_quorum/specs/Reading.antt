-- The quorum that the four blobs of a tree say, or the first of them that is missing or outside its form. A blob is in its
-- form where its text is the one that is printed for what it says.
use Rattle.std.specs.Prelude.{ℕ, ℤ, pos, negsuc, ◌==◌, nat_le, ◌&&◌, List, [], ◌∷◌, map, Option, Some, None, option_and_then, option_map, Result, Ok, Err, if◌then◌else◌, bytes_eq}
use Rattle.std.specs.Result.{result_ok}
use Rattle.std.specs.Str.{is_utf8}
use Rattle.std.specs.Ordering.{nat_cmp}
use Rattle.std.specs.FinMap.{is_sorted}
use Rattle.fluid_table.specs.Table.{byte_order}
use Rattle.fluid_table.specs.Keyed.{pairs_of}
use Rattle.fluid_json.specs.Tree.{Tree, Trees, no_trees, tree, as_text, as_whole, as_trees}
use Rattle.fluid_json.specs.Tree as json
use Rattle.fluid_json.specs.Printed.{printed}
use Rattle.fluid_json.specs.Spelled.{answer_stored}
use Rattle.fluid_tree.specs.Summary.{Summary, Children, no_children, child, as_children, as_blob}
use Rattle.fluid_types.specs.Forms.{largest}
use Rattle.fluid_types.specs.Texts.{name_of}
use Rattle.fluid_types.specs.Words.{blob_word}
use Rattle.fluid_types.specs.declared.fault.Field.{Field}
use Rattle.fluid_types.specs.declared.fault.Field.TheVariants as field
use Rattle.fluid_types.specs.declared.fault.BlobFault.{BlobFault}
use Rattle.fluid_types.specs.declared.fault.BlobFault.TheVariants.{BadBlob}
use Rattle.fluid_types.specs.declared.quorum.Member.{Member}
use Rattle.fluid_types.specs.declared.quorum.Proposal.{Proposal}
use Rattle.fluid_types.specs.declared.quorum.QuorumBlob.{QuorumBlob}
use Rattle.fluid_types.specs.declared.quorum.QuorumBlob.TheVariants as blob
use Rattle.fluid_types.specs.Quorum.{Quorum, as_name}
use Rattle.fluid_types.specs.Blobs.{attributes_tree, member_tree, proposal_tree, value_tree, list_tree}
use Rattle.fluid_quorum.specs.declared.accepting.KeyValue.{KeyValue}
use Rattle.fluid_quorum.specs.Lists.{members_of, values_of}

-- one step after another: where the first gives nothing, nothing
infixl 1 ◌>>=◌
abbrev ◌>>=◌ : {A B : Type 0} → Option A → (A → Option B) → Option B
first >>= next = option_and_then next first

-- ---- the text of a blob

-- the first entry of this name
abbrev pub find_child : List ℕ → Children → Option Summary
find_child name no_children = None
find_child name (child n s cs) = if bytes_eq n name then Some s else find_child name cs

abbrev pub as_utf8 : List ℕ → Option (List ℕ)
as_utf8 s = if is_utf8 s then Some s else None

-- the text of the blob of this name
unfoldable pub text_in : Summary → QuorumBlob → Option (List ℕ)
text_in t b = do
  cs ← as_children t
  s ← find_child (blob_word b) cs
  content ← as_blob s
  as_utf8 content

-- ---- forms of values

abbrev pub within : ℕ → ℕ → ℤ → Option ℕ
within low high (pos n) = if nat_le low n && nat_le n high then Some n else None
within low high (negsuc n) = None

-- a member that is a whole number between these two
abbrev pub count_at : Field → ℕ → ℕ → Tree → Option ℕ
count_at f low high t = do
  value ← json.find (name_of f) t
  n ← as_whole value
  within low high n

abbrev pub text_at : Field → Tree → Option (List ℕ)
text_at f t = do
  value ← json.find (name_of f) t
  as_text value

-- the greatest minimum behind so many messages: 0 where there is none
abbrev pub greatest_minimum : ℕ → ℕ
greatest_minimum number = if number == 0 then 0 else largest

-- the minimum, and the number of messages
abbrev pub attributes_form : Tree → Option (ℕ × ℕ)
attributes_form t = do
  number ← count_at field.SequenceNumber 0 largest t
  minimum ← count_at field.MinimumSequenceNumber 0 (greatest_minimum number) t
  Some (minimum, number)

-- the numbers that the other blobs name are those of the messages, from 1 to the last one's
abbrev pub member_form : ℕ → Tree → Option Member
member_form last t = do
  client ← json.find (name_of field.ClientId) t
  id ← as_name client
  number ← count_at field.SequenceNumber 1 last t
  detail ← json.find (name_of field.Detail) t
  Some (record { id = id; detail = detail; number = number })

abbrev pub proposal_form : ℕ → Tree → Option Proposal
proposal_form last t = do
  key ← text_at field.Key t
  number ← count_at field.SequenceNumber 1 last t
  value ← json.find (name_of field.Value) t
  Some (record { number = number; key = key; value = value })

abbrev pub value_form : ℕ → Tree → Option KeyValue
value_form last t = do
  approval ← count_at field.ApprovalSequenceNumber 1 last t
  key ← text_at field.Key t
  number ← count_at field.SequenceNumber 1 last t
  value ← json.find (name_of field.Value) t
  Some (record { key = key; accepted = record { number = number; approval = approval; value = value } })

-- each item of a list in its form
abbrev pub each : {A : Type 0} → (Tree → Option A) → Trees → Option (List A)
each form no_trees = Some []
each form (tree t ts) = do
  a ← form t
  rest ← each form ts
  Some (a ∷ rest)

-- ids, numbers and keys strictly rise
abbrev pub members_form : ℕ → Tree → Option (List Member)
members_form last t = do
  ts ← as_trees t
  ms ← each (member_form last) ts
  if is_sorted byte_order (pairs_of (λ m. m.id) (λ m. m) ms) then Some ms else None

abbrev pub proposals_form : ℕ → Tree → Option (List Proposal)
proposals_form last t = do
  ts ← as_trees t
  ps ← each (proposal_form last) ts
  if is_sorted nat_cmp (map (λ p. (p.number, p)) ps) then Some ps else None

abbrev pub values_form : ℕ → Tree → Option (List KeyValue)
values_form last t = do
  ts ← as_trees t
  vs ← each (value_form last) ts
  if is_sorted byte_order (pairs_of (λ v. v.key) (λ v. v.accepted) vs) then Some vs else None

-- ---- the blobs

-- what a text says, where it is the printed one of it
unfoldable pub said_by : {A : Type 0} → (Tree → Option A) → (A → Tree) → List ℕ → Option A
said_by form tree_of s = do
  t ← result_ok (answer_stored s)
  a ← form t
  if bytes_eq (printed (tree_of a)) s then Some a else None

-- what the blob of this name says, where it is in its form
abbrev pub blob_in : {A : Type 0} → Summary → QuorumBlob → (Tree → Option A) → (A → Tree) → Option A
blob_in t b form tree_of = do
  s ← text_in t b
  said_by form tree_of s

unfoldable pub attributes_in : Summary → Option (ℕ × ℕ)
attributes_in t = blob_in t blob.Attributes attributes_form (λ a. attributes_tree a.0 a.1)

-- the number of messages that the attributes say
abbrev pub number_in : Summary → Option ℕ
number_in t = option_map (λ a. a.1) (attributes_in t)

unfoldable pub members_in : ℕ → Summary → Option (List Member)
members_in last t = blob_in t blob.Members (members_form last) (list_tree member_tree)

unfoldable pub proposals_in : ℕ → Summary → Option (List Proposal)
proposals_in last t = blob_in t blob.Proposals (proposals_form last) (list_tree proposal_tree)

unfoldable pub values_in : ℕ → Summary → Option (List KeyValue)
values_in last t = blob_in t blob.Values (values_form last) (λ vs. list_tree value_tree (pairs_of (λ v. v.key) (λ v. v.accepted) vs))

-- ---- the answer: the first blob that is missing or outside its form, or the quorum

abbrev pub bad : QuorumBlob → BlobFault
bad b = BadBlob (blob_word b)

abbrev pub or_bad : {A : Type 0} → Option A → QuorumBlob → (A → Result Quorum BlobFault) → Result Quorum BlobFault
or_bad None b next = Err (bad b)
or_bad (Some a) b next = next a

unfoldable pub answer : Summary → Result Quorum BlobFault
answer t =
    or_bad (attributes_in t) blob.Attributes (λ a.
    or_bad (members_in a.1 t) blob.Members (λ ms.
    or_bad (proposals_in a.1 t) blob.Proposals (λ ps.
    or_bad (values_in a.1 t) blob.Values (λ vs.
    Ok (record { number = a.1; minimum = a.0; members = members_of ms; pending = ps; values = values_of vs })))))
