-- What follows from the scribe's definitions, about every list of messages.
use Rattle.std.specs.Prelude.{◌≡◌, ◌≤◌, ◌<◌, ℕ, Bool, true, false, not, ◌&&◌, List, [], ◌∷◌, ◌++◌, All, Contains, map, filter, length, Option, Some, None, is_some, option_map, option_to_list}
use Rattle.std.specs.List.{AllPairs, list_any, last_or}
use Rattle.hex.specs.Hex.{IsBytes}
use Rattle.fluid_types.specs.declared.messages.Message.{Message}
use Rattle.fluid_types.specs.Ledger.{Ledger, order}
use Rattle.fluid_rules.specs.Rules.{IsLegal}
use Rattle.fluid_rules.specs.declared.answers.SummaryRule.{SummaryRule}
use Rattle.fluid_rules.specs.Scribe.{is_summarize, is_ack, answers, unless_answered, unanswered, pending, acknowledged, ack_of, acks, last_ack, naming, handling, ack_contents, refusal_contents}

-- ---- one message more

-- the waiting summarize messages that a message doesn't answer
abbrev pub unanswered_by : Message → List Message → List Message
unanswered_by m waiting = filter (λ s. not (answers s.number m)) waiting

-- those that wait behind a message, where these waited before it
abbrev pub waiting_behind : List Message → Message → List Message
waiting_behind waiting m = unanswered_by m waiting ++ unless_answered [] m

-- the message takes away the summarize that it answers, and a summarize waits from then on
abbrev pub UnansweredGrows : Type 0
UnansweredGrows = (order : List Message) (m : Message) → unanswered (order ++ m ∷ []) ≡ waiting_behind (unanswered order) m

-- a summaryAck adds an acknowledgement
abbrev pub AcksGrow : Type 0
AcksGrow = (order : List Message) (m : Message) → acks (order ++ m ∷ []) ≡ acks order ++ option_to_list (ack_of order m)

-- ---- no answer stands before its summarize

-- no message answers a summarize that stands behind it
abbrev pub AreAnsweredBehind : List Message → List Message → Type 0
AreAnsweredBehind before [] = Unit {0}
AreAnsweredBehind before (m ∷ ms) =
    (is_summarize m.kind ≡ true → list_any (answers m.number) before ≡ false) × AreAnsweredBehind (before ++ m ∷ []) ms

-- a summarize message that no message of the order answers
abbrev pub waits : List Message → Message → Bool
waits order m = is_summarize m.kind && not (list_any (answers m.number) order)

-- then the unanswered ones are these
abbrev pub UnansweredByNone : Type 0
UnansweredByNone = (order : List Message) → AreAnsweredBehind [] order → unanswered order ≡ filter (waits order) order

-- ---- the pending summarize

-- numbers rise along the messages
abbrev pub AreRising : List Message → Type 0
AreRising ms = AllPairs (λ m later. m.number < later.number) ms

-- the least numbered message of those that pass
pub record IsLeastNumbered (passes : Message → Bool) (ms : List Message) (m : Message) : Type 0 where
  pub is_there : Contains ms m
  pub does_pass : passes m ≡ true
  pub is_least : All (λ other. passes other ≡ true → m.number ≤ other.number) ms

-- a message is the least numbered of those that pass, or none passes
abbrev pub IsLeastOrNone : (Message → Bool) → List Message → Option Message → Type 0
IsLeastOrNone passes ms None = All (λ m. passes m ≡ false) ms
IsLeastOrNone passes ms (Some m) = IsLeastNumbered passes ms m

-- where numbers rise and no answer stands before its summarize, the pending one is the least numbered summarize that no message of the order answers
abbrev pub PendingIsLeast : Type 0
PendingIsLeast = (order : List Message) → AreRising order → AreAnsweredBehind [] order → IsLeastOrNone (waits order) order (pending order)

-- ---- each summaryAck acknowledges

-- each summaryAck behind these messages has a handle and names a summarize that waits before it
abbrev pub AreAcknowledging : List Message → List Message → Type 0
AreAcknowledging before [] = Unit {0}
AreAcknowledging before (m ∷ ms) = (is_ack m.kind ≡ true → is_some (acknowledged before m) ≡ true) × AreAcknowledging (before ++ m ∷ []) ms

abbrev pub summary_acks : List Message → List Message
summary_acks order = filter (λ m. is_ack m.kind) order

-- then the acknowledgements are the summaryAcks of the order, each with its handle, and the last one is the last summaryAck
pub record AreSummaryAcks (order : List Message) : Type 0 where
  pub each : map (λ ack. Some ack.handle) (acks order) ≡ map (λ m. handling m.contents) (summary_acks order)
  pub last : option_map (λ ack. Some ack.handle) (last_ack order) ≡ option_map (λ m. handling m.contents) (last_or None (summary_acks order))

abbrev pub AcksAreSummaryAcks : Type 0
AcksAreSummaryAcks = (order : List Message) → AreAcknowledging [] order → AreSummaryAcks order

-- ---- legal ledgers

-- an order in which numbers rise, each answer stands behind the summarize that it names, and each summaryAck acknowledges one
pub record IsAnsweredInTurn (order : List Message) : Type 0 where
  pub rising : AreRising order
  pub behind : AreAnsweredBehind [] order
  pub acknowledging : AreAcknowledging [] order

abbrev pub OrdersAreAnsweredInTurn : Type 0
OrdersAreAnsweredInTurn = (l : Ledger) → IsLegal l → IsAnsweredInTurn (order l)

-- ---- what answers say

-- an answer names the summarize for which it was made, and a summaryAck has the handle
pub record SaysWhatIsMeant (summary : ℕ) : Type 0 where
  pub named : (handle : List ℕ) → naming (ack_contents summary handle) ≡ Some summary
  pub handled : (handle : List ℕ) → length handle ≡ 20 → IsBytes handle → handling (ack_contents summary handle) ≡ Some handle
  pub refused : (rule : SummaryRule) → naming (refusal_contents summary rule) ≡ Some summary

abbrev pub AnswersSayWhatIsMeant : Type 0
AnswersSayWhatIsMeant = (summary : ℕ) → SaysWhatIsMeant summary
