-- The scribe: what is answered to a summary. All of it is read out of the messages of an order, oldest first.
use Rattle.std.specs.Prelude.{ℕ, ℤ, pos, negsuc, ◌==◌, nat_lt, Bool, true, false, not, ◌&&◌, if◌then◌else◌, List, [], ◌∷◌, ◌++◌, map, find, reverse, slice_get, Option, Some, None, option_map, option_to_list, codes, bytes_eq}
use Rattle.std.specs.List.{list_any, last_or}
use Rattle.hex.specs.Hex.{encode_lower}
use Rattle.fluid_json.specs.Tree as json
use Rattle.fluid_json.specs.Tree.{Tree, text, object, members, as_text, as_whole}
use Rattle.fluid_types.specs.Contents.{body}
use Rattle.fluid_types.specs.Texts.{name_of}
use Rattle.fluid_types.specs.Printed.{row, count_tree}
use Rattle.fluid_types.specs.Blobs.{blobs}
use Rattle.fluid_types.specs.declared.fault.Field.TheVariants as field
use Rattle.fluid_types.specs.declared.messages.Kind.{Kind}
use Rattle.fluid_types.specs.declared.messages.Kind.TheVariants.{Op, Noop, Propose, Reject, Summarize, Join, Leave, SummaryAck, SummaryNack}
use Rattle.fluid_types.specs.declared.messages.Message.{Message}
use Rattle.fluid_tree.specs.Ids.{id_read}
use Rattle.fluid_tree.specs.Object.{object_id}
use Rattle.fluid_tree.specs.Summary.{Summary, blob, tree, children}
use Rattle.fluid_tree.specs.declared.id.SummaryRef.{SummaryRef}
use Rattle.fluid_tree.specs.declared.object.Object.TheVariants.{Blob, Tree as ObjectTree}
use Rattle.fluid_tree.specs.declared.object.ObjectEntry.{ObjectEntry}
use Rattle.fluid_rules.specs.Past.{count_of}
use Rattle.fluid_rules.specs.Cases.{first_case}
use Rattle.fluid_rules.specs.declared.answers.SummaryRule.{SummaryRule}
use Rattle.fluid_rules.specs.declared.answers.SummaryRule.TheVariants.{Malformed, StaleHead, OldReference, Missing}
use Rattle.fluid_rules.specs.declared.answers.Proposed.{Proposed}
use Rattle.fluid_rules.specs.declared.answers.Answer.{Answer}
use Rattle.fluid_rules.specs.declared.answers.Answer.TheVariants.{Dropped, Ack, Refused}

-- ---- what one message says

-- one step after another: where the first gives nothing, nothing
infixl 1 ◌>>=◌
abbrev ◌>>=◌ : {A B : Type 0} → Option A → (A → Option B) → Option B
None >>= f = None
Some a >>= f = f a

abbrev pub is_summarize : Kind → Bool
is_summarize Op = false
is_summarize Noop = false
is_summarize Propose = false
is_summarize Reject = false
is_summarize Summarize = true
is_summarize Join = false
is_summarize Leave = false
is_summarize SummaryAck = false
is_summarize SummaryNack = false

abbrev pub is_ack : Kind → Bool
is_ack Op = false
is_ack Noop = false
is_ack Propose = false
is_ack Reject = false
is_ack Summarize = false
is_ack Join = false
is_ack Leave = false
is_ack SummaryAck = true
is_ack SummaryNack = false

-- a summaryAck or a summaryNack
abbrev pub is_answer : Kind → Bool
is_answer Op = false
is_answer Noop = false
is_answer Propose = false
is_answer Reject = false
is_answer Summarize = false
is_answer Join = false
is_answer Leave = false
is_answer SummaryAck = true
is_answer SummaryNack = true

-- the member `handle`, of 40 lower-case hexadecimal digits
abbrev pub handling : Tree → Option (List ℕ)
handling t = do
  handle ← json.find (name_of field.Handle) t
  digits ← as_text handle
  id_read digits

-- an object with such a handle and a text `head`
abbrev pub proposing : Tree → Option Proposed
proposing t = do
  app ← handling t
  last ← json.find (name_of field.Head) t
  head ← as_text last
  Some (record { app = app; head = head })

-- the summary for which a summarize asks
unfoldable pub proposed_by : Message → Option Proposed
proposed_by m = proposing (body m.contents)

-- the reference of a message; that of a join, a leave or an answer, which is -1, counts as 0
abbrev pub reference_of : Message → ℕ
reference_of m = count_of m.reference

abbrev pub not_negative : ℤ → Option ℕ
not_negative (pos n) = Some n
not_negative (negsuc n) = None

-- the number of the summarize that the contents of an answer name, in their `summaryProposal`
abbrev pub naming : Tree → Option ℕ
naming t = do
  proposal ← json.find (name_of field.SummaryProposal) t
  number ← json.find (name_of field.SummarySequenceNumber) proposal
  n ← as_whole number
  not_negative n

-- the number of the summarize that a message answers
unfoldable pub answered_by : Message → Option ℕ
answered_by m = if is_answer m.kind then naming m.contents else None

abbrev pub is_number : ℕ → Option ℕ → Bool
is_number number None = false
is_number number (Some n) = n == number

-- a message answers the summarize with this number
abbrev pub answers : ℕ → Message → Bool
answers number m = is_number number (answered_by m)

-- ---- summarize messages that wait

-- a summarize stands here unless one of the messages behind it answers it
abbrev pub unless_answered : List Message → Message → List Message
unless_answered behind m = if is_summarize m.kind && not (list_any (answers m.number) behind) then m ∷ [] else []

-- the summarize messages that no summaryAck or summaryNack has answered, oldest first
unfoldable pub unanswered : List Message → List Message
unanswered [] = []
unanswered (m ∷ behind) = unless_answered behind m ++ unanswered behind

-- the oldest of them is pending: since numbers rise along an order, the one with the least number
abbrev pub pending : List Message → Option Message
pending order = slice_get (unanswered order) 0

-- ---- acknowledged summaries

-- a summaryAck behind these messages acknowledges the unanswered summarize that it names: its handle, and the reference of that summarize
abbrev pub acknowledged : List Message → Message → Option SummaryRef
acknowledged before m = do
  handle ← handling m.contents
  number ← answered_by m
  summarize ← find (λ s. s.number == number) (unanswered before)
  Some (record { handle = handle; number = reference_of summarize })

unfoldable pub ack_of : List Message → Message → Option SummaryRef
ack_of before m = if is_ack m.kind then acknowledged before m else None

-- the acknowledgements of some messages behind others
unfoldable pub acks_behind : List Message → List Message → List SummaryRef
acks_behind before [] = []
acks_behind before (m ∷ ms) = option_to_list (ack_of before m) ++ acks_behind (before ++ m ∷ []) ms

-- the acknowledged summaries of an order, oldest first
unfoldable pub acks : List Message → List SummaryRef
acks order = acks_behind [] order

abbrev pub last_ack : List Message → Option SummaryRef
last_ack order = last_or None (acks order)

-- the number of a handle: that of the last acknowledgement that has it
abbrev pub number_of : List Message → List ℕ → Option ℕ
number_of order handle = option_map (λ ack. ack.number) (find (λ ack. bytes_eq ack.handle handle) (reverse (acks order)))

-- ---- versions

-- the tree of the four blobs
abbrev pub protocol : List (List ℕ × List ℕ) → Summary
protocol blobs = tree (children (map (λ b. (b.0, blob b.1)) blobs))

abbrev pub blob_entry : List ℕ × List ℕ → ObjectEntry
blob_entry b = record { name = b.0; tree = false; id = object_id (Blob b.1) }

abbrev pub tree_entry : List ℕ → List ℕ → ObjectEntry
tree_entry name id = record { name = name; tree = true; id = id }

unfoldable pub protocol_id : List (List ℕ × List ℕ) → List ℕ
protocol_id blobs = object_id (ObjectTree (map blob_entry blobs))

-- the id of the tree of `.app`, with this id, and `.protocol`, with these blobs
unfoldable pub version : List ℕ → List (List ℕ × List ℕ) → List ℕ
version app blobs = object_id (ObjectTree (tree_entry (codes ".app") app ∷ tree_entry (codes ".protocol") (protocol_id blobs) ∷ []))

-- ---- the answer

-- the head on which a summary has to build: the handle of the last acknowledged one, and nothing where there is none
abbrev pub head_behind : Option SummaryRef → List ℕ
head_behind None = []
head_behind (Some ack) = encode_lower ack.handle

abbrev pub is_stale : Option SummaryRef → Proposed → Bool
is_stale last proposed = not (bytes_eq proposed.head (head_behind last))

-- its reference is below that of the last acknowledged summarize
abbrev pub is_old : Option SummaryRef → ℕ → Bool
is_old None reference = false
is_old (Some ack) reference = nat_lt reference ack.number

-- the first case that fits; where none does, it is acknowledged with the order's state at its reference
abbrev pub judged : List Message → ℕ → Bool → Option Proposed → Answer
judged order reference found None = Refused Malformed
judged order reference found (Some proposed) =
    first_case
    ((is_stale (last_ack order) proposed, Refused StaleHead)
    ∷ (is_old (last_ack order) reference, Refused OldReference)
    ∷ (not found, Refused Missing)
    ∷ [])
    (Ack (version proposed.app (blobs order reference)))

-- the answer to a summarize
unfoldable pub answer_to : List Message → Bool → Message → Answer
answer_to order found m = judged order (reference_of m) found (proposed_by m)

-- a report on another number than that of the pending summarize is dropped
abbrev pub answer_by : List Message → ℕ → Bool → Option Message → Answer
answer_by order summary found None = Dropped
answer_by order summary found (Some m) = if m.number == summary then answer_to order found m else Dropped

-- the answer to a report that the tree of the summarize with this number is stored, or isn't
unfoldable pub answer : List Message → ℕ → Bool → Answer
answer order summary found = answer_by order summary found (pending order)

-- ---- the messages of answers

-- the text of a rule
unfoldable pub rule_text : SummaryRule → List ℕ
rule_text Malformed = codes "summarize contents are malformed"
rule_text StaleHead = codes "head is not the last acknowledged summary"
rule_text OldReference = codes "reference is below the last acknowledged summary"
rule_text Missing = codes "summary tree is not stored"

-- which summarize is answered
abbrev pub proposal_tree : ℕ → Tree
proposal_tree summary = object (members (row field.SummarySequenceNumber (count_tree summary) ∷ []))

abbrev pub ack_contents : ℕ → List ℕ → Tree
ack_contents summary handle = object (members (row field.Handle (text (encode_lower handle)) ∷ row field.SummaryProposal (proposal_tree summary) ∷ []))

abbrev pub refusal_contents : ℕ → SummaryRule → Tree
refusal_contents summary rule =
    object
    (members
    (row field.Code (count_tree 400)
    ∷ row field.Message (text (rule_text rule))
    ∷ row field.SummaryProposal (proposal_tree summary)
    ∷ []))

-- the kind and the contents of the message that a report gets; none where it is dropped
abbrev pub reported : ℕ → Answer → Option (Kind × Tree)
reported summary Dropped = None
reported summary (Ack handle) = Some (SummaryAck, ack_contents summary handle)
reported summary (Refused rule) = Some (SummaryNack, refusal_contents summary rule)
