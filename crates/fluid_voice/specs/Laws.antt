-- What holds of what is asked and answered.
use Rattle.std.specs.Prelude.{◌≡◌, ◌<◌, ◌≤◌, ⊤, ℕ, true, false, List, [], ◌∷◌, All, map, Option, Some, None}
use Rattle.fluid_types.specs.Ledger.{Ledger}
use Rattle.fluid_types.specs.declared.entries.Submission.{Submission}
use Rattle.fluid_types.specs.declared.entries.Raw.{Raw}
use Rattle.fluid_types.specs.declared.entries.Raw.TheVariants.{Submit}
use Rattle.fluid_types.specs.declared.messages.Message.{Message}
use Rattle.fluid_types.specs.declared.verdicts.Verdict.TheVariants.{Sequenced}
use Rattle.fluid_rules.specs.Rules.{verdict}
use Rattle.fluid_rules.specs.Counted.{is_counted, counted, is_full}
use Rattle.fluid_voice.specs.declared.states.VoiceState.{VoiceState}
use Rattle.fluid_voice.specs.declared.actions.Act.{Act}
use Rattle.fluid_voice.specs.declared.actions.Act.TheVariants as act
use Rattle.fluid_voice.specs.declared.ends.ActEnd.{ActEnd}
use Rattle.fluid_voice.specs.declared.ends.ActEnd.TheVariants.{FullNow}
use Rattle.fluid_voice.specs.States.{client_id, is_connected, next_number, with_next}
use Rattle.fluid_voice.specs.Heard.{submission_acts, acts_of, entries_in, submissions_of}
use Rattle.fluid_voice.specs.Replies.{replies_to, state_after}
use Rattle.fluid_voice.specs.Ends.{join_of, Found, Outcome, outcome, outcomes}
use Rattle.fluid_voice.specs.Ends.Outcome.{ends}
use Rattle.fluid_voice.specs.Suits.{Suits, OutcomeSuits}
use Rattle.fluid_voice.specs.Feed.{is_event}

-- ---- full documents

-- a document that is full for an entry is full for every other one that counts, now and when more entries count
abbrev pub FullGoesOn : Type 0
FullGoesOn =
    (entries : ℕ) (l m : Ledger) (raw other : Raw) → is_full entries l raw ≡ true → counted l ≤ counted m → is_counted other ≡ true
    → is_full entries m other ≡ true

-- behind the first that says that the document is full, all say it
abbrev pub StayFull : List Outcome → Type 0
StayFull [] = ⊤
StayFull (ends FullNow ∷ rest) = All (λ o. o ≡ ends FullNow) rest
StayFull (o ∷ rest) = StayFull rest

-- the same of ends, whoever comes between
abbrev pub FullBehind : List ActEnd → Type 0
FullBehind [] = ⊤
FullBehind (FullNow ∷ rest) = All (λ end. end ≡ FullNow) rest
FullBehind (end ∷ rest) = FullBehind rest

-- the submissions of a text, where nobody else comes between
abbrev pub FullStaysFull : Type 0
FullStaysFull =
    (f : Found) (moment : ℕ) (id : List ℕ) (submissions : List Submission) → StayFull (outcomes f (submission_acts moment id submissions))

-- ---- ends

-- the id of a join is new, so that the join is sequenced
abbrev pub IsTaken : Ledger → Act → Type 0
IsTaken l (act.Connect name true scopes detail moment) = (m : Message) × (verdict l (join_of l scopes detail moment) ≡ Sequenced m)
IsTaken l act = ⊤

-- what a document or a store answers to an act is an end that the act may have
abbrev pub OutcomesSuit : Type 0
OutcomesSuit = (f : Found) (act : Act) → IsTaken f.ledger act → OutcomeSuits act (outcome f act)

-- ---- texts

-- no text changes where a connected one stands, however its acts end
abbrev pub ConnectedStay : Type 0
ConnectedStay =
    (s : VoiceState) (text : List ℕ) (moment : ℕ) → is_connected s ≡ true
    → All (λ act. (end : ActEnd) → state_after s act end ≡ s) (acts_of s text moment)

-- one reply, or one connect, or nothing
abbrev pub IsOneAnswer : List Act → Type 0
IsOneAnswer [] = ⊤
IsOneAnswer (act.Say reply ∷ []) = ⊤
IsOneAnswer (act.Connect name write scopes detail moment ∷ []) = ⊤
IsOneAnswer acts = ⊥

-- a text of one that isn't connected asks for no more
abbrev pub OthersConnect : Type 0
OthersConnect = (s : VoiceState) (text : List ℕ) (moment : ℕ) → is_connected s ≡ false → IsOneAnswer (acts_of s text moment)

-- the number that a connected one is told next is that of a message: none has number 0
abbrev pub IsAhead : VoiceState → Type 0
IsAhead s = is_connected s ≡ true → 0 < next_number s

-- it stays one behind each act, and behind whatever is delivered
abbrev pub NextStaysAhead : Type 0
NextStaysAhead = (s : VoiceState) (act : Act) (end : ActEnd) → Suits act end → IsAhead s → IsAhead (state_after s act end)

abbrev pub DeliveredStaysAhead : Type 0
DeliveredStaysAhead = (s : VoiceState) (number : ℕ) → IsAhead s → IsAhead (with_next number s)

-- no reply to a text is an op event: these come from the feed alone
abbrev pub RepliesAreNoEvents : Type 0
RepliesAreNoEvents =
    (s : VoiceState) (text : List ℕ) (moment : ℕ)
    → All (λ act. (end : ActEnd) → Suits act end → All (λ reply. is_event reply ≡ false) (replies_to s act end)) (acts_of s text moment)

-- the submissions of a text as the entries of a client
abbrev pub entries_under : Option (List ℕ) → List ℕ → ℕ → List Raw
entries_under None text moment = []
entries_under (Some id) text moment = map (λ submission. Submit id submission moment) (submissions_of id text)

-- only a client that writes enters something: the submissions that its text spells under its own id, in their order
abbrev pub WritersEnter : Type 0
WritersEnter = (s : VoiceState) (text : List ℕ) (moment : ℕ) → entries_in (acts_of s text moment) ≡ entries_under (client_id s) text moment
