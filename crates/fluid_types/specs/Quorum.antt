-- The quorum of a document, read out of the messages of its order, oldest first: who has joined and not left, which values
-- were proposed, and which of them every client has seen.
use Rattle.std.specs.Prelude.{ℕ, nat_le, Bool, if◌then◌else◌, List, [], ◌∷◌, ◌++◌, take, find, filter_map, reverse, map, Option, Some, None, option_and_then, option_map, option_to_list, unwrap_or, bytes_eq}
use Rattle.std.specs.List.{list_any, last_or}
use Rattle.std.specs.Result.{result_ok}
use Rattle.std.specs.FinMap.{FinMap, from_entries}
use Rattle.fluid_table.specs.Table.{byte_order}
use Rattle.fluid_json.specs.Tree as json
use Rattle.fluid_json.specs.Tree.{Tree, as_text}
use Rattle.fluid_json.specs.Spelled.{answer}
use Rattle.fluid_types.specs.Contents.{body}
use Rattle.fluid_types.specs.Names.{is_name}
use Rattle.fluid_types.specs.Texts.{name_of}
use Rattle.fluid_types.specs.declared.fault.Field.TheVariants as field
use Rattle.fluid_types.specs.declared.messages.Kind.{Kind}
use Rattle.fluid_types.specs.declared.messages.Kind.TheVariants.{Op, Noop, Propose, Reject, Summarize, Join, Leave, SummaryAck, SummaryNack}
use Rattle.fluid_types.specs.declared.messages.Message.{Message}
use Rattle.fluid_types.specs.declared.quorum.Member.{Member}
use Rattle.fluid_types.specs.declared.quorum.Proposal.{Proposal}
use Rattle.fluid_types.specs.declared.quorum.Accepted.{Accepted}

-- ---- what one message says

-- one step after another: where the first gives nothing, nothing
infixl 1 ◌>>=◌
abbrev ◌>>=◌ : {A B : Type 0} → Option A → (A → Option B) → Option B
first >>= next = option_and_then next first

-- what is said by a message of a kind, and nothing by the others
abbrev pub of_join : {A : Type 0} → Kind → Option A → Option A
of_join Op said = None
of_join Noop said = None
of_join Propose said = None
of_join Reject said = None
of_join Summarize said = None
of_join Join said = said
of_join Leave said = None
of_join SummaryAck said = None
of_join SummaryNack said = None

abbrev pub of_leave : {A : Type 0} → Kind → Option A → Option A
of_leave Op said = None
of_leave Noop said = None
of_leave Propose said = None
of_leave Reject said = None
of_leave Summarize said = None
of_leave Join said = None
of_leave Leave said = said
of_leave SummaryAck said = None
of_leave SummaryNack said = None

abbrev pub of_propose : {A : Type 0} → Kind → Option A → Option A
of_propose Op said = None
of_propose Noop said = None
of_propose Propose said = said
of_propose Reject said = None
of_propose Summarize said = None
of_propose Join said = None
of_propose Leave said = None
of_propose SummaryAck said = None
of_propose SummaryNack said = None

-- the value that the data of a system message spells
abbrev pub data_of : Message → Option Tree
data_of m = do
  s ← m.system
  result_ok (answer s)

-- a text that is a name
abbrev pub as_name : Tree → Option (List ℕ)
as_name t = do
  s ← as_text t
  if is_name s then Some s else None

-- an object with a name `clientId` and a member `detail`, of the join with this number
abbrev pub joining : ℕ → Tree → Option Member
joining number t = do
  client ← json.find (name_of field.ClientId) t
  id ← as_name client
  detail ← json.find (name_of field.Detail) t
  Some (record { id = id; detail = detail; number = number })

-- the member that a join adds
unfoldable pub member_of : Message → Option Member
member_of m = of_join m.kind (data_of m >>= joining m.number)

-- the id of the client that leaves
unfoldable pub left_by : Message → Option (List ℕ)
left_by m = of_leave m.kind (data_of m >>= as_text)

-- an object with a text `key` and a member `value`, of the propose with this number
abbrev pub proposing : ℕ → Tree → Option Proposal
proposing number t = do
  named ← json.find (name_of field.Key) t
  key ← as_text named
  value ← json.find (name_of field.Value) t
  Some (record { number = number; key = key; value = value })

-- the proposal that a propose makes
unfoldable pub proposal_of : Message → Option Proposal
proposal_of m = of_propose m.kind (proposing m.number (body m.contents))

-- ---- tables

-- a finite map from texts, which stand in the order of their bytes
abbrev pub Table : Type 0 → Type 0
Table X = FinMap byte_order X

-- the keys of these pairs, each with the value of the last pair that has it
unfoldable pub latest : {X : Type 0} → List (List ℕ × X) → Table X
latest pairs = from_entries (reverse pairs)

-- ---- members: the joins that no later leave of their client follows, the latest of each client

abbrev pub leaves : List ℕ → Message → Bool
leaves id m = list_any (bytes_eq id) (option_to_list (left_by m))

-- a join's member under its id, unless one of the messages behind it is a leave of it
abbrev pub unless_left : List Message → Option Member → List (List ℕ × Member)
unless_left behind None = []
unless_left behind (Some member) = if list_any (leaves member.id) behind then [] else (member.id, member) ∷ []

unfoldable pub standing : List Message → List (List ℕ × Member)
standing [] = []
standing (m ∷ behind) = unless_left behind (member_of m) ++ standing behind

unfoldable pub members : List Message → Table Member
members ms = latest (standing ms)

-- ---- proposals

-- the number of the first of these messages whose minimum is at least this number
abbrev pub approval : ℕ → List Message → Option ℕ
approval number ms = option_map (λ m. m.number) (find (λ m. nat_le number m.minimum) ms)

-- the proposals, oldest first, each with its approval number, if it has one: its own message is the first that may approve it
unfoldable pub proposals : List Message → List (Proposal × Option ℕ)
proposals [] = []
proposals (m ∷ behind) = map (λ p. (p, approval p.number (m ∷ behind))) (option_to_list (proposal_of m)) ++ proposals behind

-- a proposal without an approval number is pending
abbrev pub is_pending : Proposal × Option ℕ → Option Proposal
is_pending (p, None) = Some p
is_pending (p, Some number) = None

unfoldable pub pending : List Message → List Proposal
pending ms = filter_map is_pending (proposals ms)

-- one with an approval number is accepted, under its key
abbrev pub is_accepted : Proposal × Option ℕ → Option (List ℕ × Accepted)
is_accepted (p, None) = None
is_accepted (p, Some number) = Some (p.key, record { number = p.number; approval = number; value = p.value })

-- a key's value is that of its last accepted proposal, which has the greatest number, since numbers rise along an order
unfoldable pub values : List Message → Table Accepted
values ms = latest (filter_map is_accepted (proposals ms))

-- ---- the quorum

pub record Quorum : Type 0 where
  -- the number of the last message and its minimum, 0 before the first
  pub number : ℕ
  pub minimum : ℕ
  pub members : Table Member
  pub pending : List Proposal
  pub values : Table Accepted

-- what the last message says, 0 where there is none
abbrev pub at_last : (Message → ℕ) → List Message → ℕ
at_last f ms = unwrap_or (last_or None (map f ms)) 0

-- the quorum of these messages
unfoldable pub quorum_of : List Message → Quorum
quorum_of ms = record {
  number = at_last (λ m. m.number) ms;
  minimum = at_last (λ m. m.minimum) ms;
  members = members ms;
  pending = pending ms;
  values = values ms;
}

-- the quorum of the first n messages of an order
abbrev pub quorum : List Message → ℕ → Quorum
quorum order n = quorum_of (take n order)
