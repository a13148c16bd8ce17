-- The laws of the sequencing rules, each about every ledger.
use Rattle.std.specs.Prelude.{◌≡◌, ◌+◌, ◌≤◌, ◌↔◌, ℕ, true, if◌then◌else◌, List, [], ◌∷◌, ◌++◌, Some, unwrap_or, length}
use Rattle.fluid_types.specs.declared.entries.Raw.{Raw}
use Rattle.fluid_types.specs.declared.entries.Raw.TheVariants.{Submit}
use Rattle.fluid_types.specs.declared.entries.Submission.{Submission}
use Rattle.fluid_types.specs.declared.messages.Message.{Message}
use Rattle.fluid_types.specs.declared.nacks.Nack.{Nack}
use Rattle.fluid_types.specs.declared.verdicts.Verdict.TheVariants.{Sequenced, Nacked, Absorbed}
use Rattle.fluid_types.specs.Ledger.{Ledger, messages_of, order, raws, seq}
use Rattle.fluid_rules.specs.Past.{Entry, Client, IsLeast, client_behind, has_id, AreInOrder, read_as, speaking}
use Rattle.fluid_rules.specs.Counted.{is_counted, counted}
use Rattle.fluid_rules.specs.Rules.{is_joined, last_number, reference, heard, client, refusals, joined, minimum, last_minimum, last_minimum_behind, lifted, message, verdict, IsLegal, IsLegalBehind, ledger_behind, entries_behind, ledger}

-- the minimum is the least reference of a joined client, and the last sequence number where nobody is joined
abbrev pub MinimumIsLeast : Type 0
MinimumIsLeast = (l : Ledger) → IsLeast (client l) (seq l) (minimum l)

-- the minimum of a legal ledger is at most its last sequence number
abbrev pub MinimumIsBounded : Type 0
MinimumIsBounded = (l : Ledger) → IsLegal l → minimum l ≤ seq l

-- the minimum never falls as a legal ledger grows
abbrev pub MinimumNeverFalls : Type 0
MinimumNeverFalls = (first second : Ledger) → IsLegal (first ++ second) → minimum first ≤ minimum (first ++ second)

-- what a nack leaves as it is
pub record LeavesOrder (before after : Ledger) : Type 0 where
  pub same_minimum : minimum after ≡ minimum before
  pub same_seq : seq after ≡ seq before

-- a nack changes neither the minimum nor the last sequence number
abbrev pub NackLeavesOrder : Type 0
NackLeavesOrder = (l : Ledger) (raw : Raw) (nack : Nack) → IsLegal (l ++ (raw, Nacked nack) ∷ []) → LeavesOrder l (l ++ (raw, Nacked nack) ∷ [])

-- what an absorbed entry leaves as it is: each message and the last sequence number
pub record KeepsOrder (before after : Ledger) : Type 0 where
  pub same_order : order after ≡ order before
  pub same_seq : seq after ≡ seq before
  pub same_last_minimum : last_minimum after ≡ last_minimum before

abbrev pub AbsorbedKeepsOrder : Type 0
AbsorbedKeepsOrder = (l : Ledger) (raw : Raw) → KeepsOrder l (l ++ (raw, Absorbed) ∷ [])

-- behind an absorbed noop the minimum is what it lifts it to
abbrev pub AbsorbedLifts : Type 0
AbsorbedLifts =
    (l : Ledger) (c : List ℕ) (submission : Submission) (moment : ℕ) → verdict l (Submit c submission moment) ≡ Absorbed
    → minimum (l ++ (Submit c submission moment, Absorbed) ∷ []) ≡ lifted l c submission

-- a submission is taken: its client is joined, its number is the next one and is the last one from then on, and so is this reference
pub record IsTaken (l after : Ledger) (c : List ℕ) (submission : Submission) (taken : ℕ) : Type 0 where
  pub joined : is_joined l c ≡ true
  pub next : submission.client_number ≡ last_number l c + 1
  pub counted : last_number after c ≡ submission.client_number
  pub reference_is : reference after c ≡ taken

-- a reference of -1 is that of the message's own number where the submission is sequenced
abbrev pub SequencedIsTaken : Type 0
SequencedIsTaken =
    (l : Ledger) (c : List ℕ) (submission : Submission) (moment : ℕ) (m : Message) → verdict l (Submit c submission moment) ≡ Sequenced m
    → IsTaken l (l ++ (Submit c submission moment, Sequenced m) ∷ []) c submission (read_as m.number submission.reference)

-- and the last sequence number where it is absorbed
abbrev pub AbsorbedIsTaken : Type 0
AbsorbedIsTaken =
    (l : Ledger) (c : List ℕ) (submission : Submission) (moment : ℕ) → verdict l (Submit c submission moment) ≡ Absorbed
    → IsTaken l (l ++ (Submit c submission moment, Absorbed) ∷ []) c submission (read_as (seq l) submission.reference)

-- in a legal ledger a client is refused as below the minimum at most once since it joined
abbrev pub RefusedOnce : Type 0
RefusedOnce = (l : Ledger) → IsLegal l → (c : List ℕ) → refusals l c ≤ 1

-- a message carries the minimum that holds behind it
abbrev pub MessageHasMinimum : Type 0
MessageHasMinimum = (l : Ledger) (raw : Raw) (m : Message) → message l raw ≡ Some m → m.minimum ≡ minimum (l ++ (raw, Sequenced m) ∷ [])

-- the joined ids are those of the joined clients, in byte order
pub record AreJoined (l : Ledger) : Type 0 where
  pub members : (c : List ℕ) → has_id c (joined l) ≡ is_joined l c
  pub in_order : AreInOrder (joined l)

abbrev pub JoinedInOrder : Type 0
JoinedInOrder = (l : Ledger) → AreJoined l

-- the ledger of raw entries is a legal ledger of these entries, and the only one
pub record IsOnlyLegal (entries : List Raw) : Type 0 where
  pub legal : IsLegal (ledger entries)
  pub entries_are : raws (ledger entries) ≡ entries
  pub only : (l : Ledger) → IsLegal l → raws l ≡ entries → l ≡ ledger entries

abbrev pub LedgerIsOnlyLegal : Type 0
LedgerIsOnlyLegal = (entries : List Raw) → IsOnlyLegal entries

-- one raw entry more gets its verdict over the ledger of those before it
abbrev pub LedgerGrows : Type 0
LedgerGrows = (entries : List Raw) (raw : Raw) → ledger (entries ++ raw ∷ []) ≡ ledger entries ++ (raw, verdict (ledger entries) raw) ∷ []

-- ---- one entry more at the end of a ledger

-- in the lists that are read out of it
pub record Grows (l : Ledger) (entry : Entry) : Type 0 where
  pub raws_grow : raws (l ++ entry ∷ []) ≡ raws l ++ entry.0 ∷ []
  pub order_grows : order (l ++ entry ∷ []) ≡ order l ++ messages_of entry.1
  pub seq_grows : seq (l ++ entry ∷ []) ≡ seq l + length (messages_of entry.1)

abbrev pub ListsGrow : Type 0
ListsGrow = (l : Ledger) (entry : Entry) → Grows l entry

-- in what it says of a client: `client_behind` is what follows from what it said before, the last sequence number and the minimum
abbrev pub ClientGrows : Type 0
ClientGrows = (l : Ledger) (entry : Entry) (c : List ℕ) → client (l ++ entry ∷ []) c ≡ client_behind entry (seq l) (minimum l) c (client l c)

-- in when a client was heard of: an entry of its own moves that, whatever its verdict, and no other entry does
abbrev pub HeardGrows : Type 0
HeardGrows = (l : Ledger) (entry : Entry) (c : List ℕ) → heard (l ++ entry ∷ []) c ≡ unwrap_or (speaking c entry.0) (heard l c)

-- in the minimum of the last message
abbrev pub LastMinimumGrows : Type 0
LastMinimumGrows = (l : Ledger) (entry : Entry) → last_minimum (l ++ entry ∷ []) ≡ last_minimum_behind (last_minimum l) entry.1

-- it is legal exactly where it was and the entry has the verdict over it
abbrev pub LegalGrows : Type 0
LegalGrows = (l : Ledger) (entry : Entry) → IsLegal (l ++ entry ∷ []) ↔ (IsLegal l × (entry.1 ≡ verdict l entry.0))

-- in how many of them count against the limit of a document
abbrev pub CountedGrows : Type 0
CountedGrows = (l : Ledger) (entry : Entry) → counted (l ++ entry ∷ []) ≡ counted l + (if is_counted entry.0 then 1 else 0)

-- ---- parts and bounds

-- a ledger of two parts is legal exactly where the first is legal and the second is legal behind it
abbrev pub LegalInParts : Type 0
LegalInParts = (first second : Ledger) → IsLegal (first ++ second) ↔ (IsLegal first × IsLegalBehind first second)

-- raw entries behind a ledger, and those of two lists behind it
pub record AreBehind (before : Ledger) (first second : List Raw) : Type 0 where
  pub ledger_is : ledger_behind before first ≡ before ++ entries_behind before first
  pub onwards : entries_behind before (first ++ second) ≡ entries_behind before first ++ entries_behind (ledger_behind before first) second

abbrev pub EntriesBehind : Type 0
EntriesBehind = (before : Ledger) (first second : List Raw) → AreBehind before first second

-- a verdict that is a message is the message of its entry
abbrev pub VerdictIsMessage : Type 0
VerdictIsMessage = (l : Ledger) (raw : Raw) (m : Message) → verdict l raw ≡ Sequenced m → message l raw ≡ Some m

-- a message has the next number
abbrev pub MessageIsNext : Type 0
MessageIsNext = (l : Ledger) (raw : Raw) (m : Message) → message l raw ≡ Some m → m.number ≡ seq l + 1

-- no more messages than entries
abbrev pub SeqIsBounded : Type 0
SeqIsBounded = (l : Ledger) → seq l ≤ length l

-- in a legal ledger no client refers beyond the last sequence number
abbrev pub ReferencesAreBounded : Type 0
ReferencesAreBounded = (l : Ledger) → IsLegal l → (c : List ℕ) (said : Client) → client l c ≡ Some said → said.reference ≤ seq l

-- no more entries count than there are
abbrev pub CountedIsBounded : Type 0
CountedIsBounded = (l : Ledger) → counted l ≤ length l
