-- What is read fits.
use Rattle.std.specs.Prelude.{◌≡◌, ◌≢◌, ◌↔◌, ℕ, ◌*◌, ◌≤◌, ◌<◌, List, length, Bool, All, Some, Ok, IfErr}
use Rattle.fluid_json.specs.Tree.{Tree, depth, IsCanonical}
use Rattle.fluid_json.specs.Printed.{printed}
use Rattle.fluid_json.specs.Spelled.{answer, answer_within}
use Rattle.fluid_json.specs.declared.fault.JsonFault.TheVariants as json
use Rattle.fluid_types.specs.Names.{IsName}
use Rattle.fluid_types.specs.Forms.{Read, largest}
use Rattle.fluid_types.specs.Records.{raw_spelled}
use Rattle.fluid_types.specs.Messages.{message_spelled}
use Rattle.fluid_types.specs.Printed.{raw_printed, message_printed}
use Rattle.fluid_types.specs.Ledger.{Ledger, seq}
use Rattle.fluid_types.specs.Fits.{Fits, longest_record}
use Rattle.fluid_types.specs.declared.fault.CodecFault.TheVariants.{NoMemory}
use Rattle.fluid_types.specs.declared.entries.Scopes.{Scopes}
use Rattle.fluid_types.specs.declared.entries.Submission.{Submission}
use Rattle.fluid_types.specs.declared.entries.Raw.{Raw}
use Rattle.fluid_types.specs.declared.entries.Raw.TheVariants.{Join, Leave, Submit, Report}
use Rattle.fluid_types.specs.declared.messages.Message.{Message}
use Rattle.fluid_types.specs.declared.verdicts.Verdict.TheVariants.{Sequenced}
use Rattle.fluid_rules.specs.declared.answers.Answer.{Answer}
use Rattle.fluid_rules.specs.declared.answers.Answer.TheVariants.{Dropped, Ack, Refused}
use Rattle.fluid_rules.specs.Rules.{unsettled, verdict, IsLegal}
use Rattle.fluid_codec.specs.Events.{event_spelled}
use Rattle.fluid_codec.specs.Laws.{IsInGrammar, IsMessage}
use Rattle.fluid_codec.specs.declared.events.Event.TheVariants.{Connect, SubmitOp}

-- a value that was read: its numbers and keys are in order, it is at most 100 deep, and its printed text is at most twice as long as
-- the text that it was read from
pub record IsRead (s : List ℕ) (t : Tree) : Type 0 where
  pub canonical : IsCanonical t
  pub shallow : depth t ≤ 100
  pub short : length (printed t) ≤ 2 * length s

abbrev pub ValuesAreBounded : Type 0
ValuesAreBounded = (s : List ℕ) (t : Tree) → answer s ≡ Ok t → IsRead s t

-- the most bytes of a text that is heard or of a line that is read: 1 MiB
abbrev pub longest_text : ℕ
longest_text = 1048576

-- a raw entry that is read from a record fits
abbrev pub ReadRecordsFit : Type 0
ReadRecordsFit = (s : List ℕ) (raw : Raw) → length s ≤ longest_text → raw_spelled s ≡ Ok raw → Fits raw

-- where it is a join, it fits under any other name too
abbrev pub ReadJoinsFit : Type 0
ReadJoinsFit =
    (s id : List ℕ) (scopes : Scopes) (detail : Tree) (moment : ℕ) → length s ≤ longest_text → raw_spelled s ≡ Ok (Join id scopes detail moment)
    → (other : List ℕ) → IsName other → Fits (Join other scopes detail moment)

-- and so does the join that a connection asks for, under any name and at any moment
abbrev pub HeardConnectsFit : Type 0
HeardConnectsFit =
    (s name : List ℕ) (write : Bool) (scopes : Scopes) (client : Tree) → length s ≤ longest_text → event_spelled s ≡ Ok (Connect name write scopes client)
    → (id : List ℕ) (moment : ℕ) → IsName id → moment ≤ largest → Fits (Join id scopes client moment)

-- and each submission that is heard
abbrev pub HeardSubmissionsFit : Type 0
HeardSubmissionsFit =
    (s id : List ℕ) (submissions : List Submission) → length s ≤ longest_text → event_spelled s ≡ Ok (SubmitOp id submissions)
    → (moment : ℕ) → moment ≤ largest → All (λ submission. Fits (Submit id submission moment)) submissions

-- a raw entry that a text of any length spells fits where its own record isn't too long
abbrev pub SpelledFit : Type 0
SpelledFit = (s : List ℕ) (raw : Raw) → raw_spelled s ≡ Ok raw → length (raw_printed raw) ≤ longest_record → Fits raw

-- a leave of any client fits at any moment
abbrev pub LeavesFit : Type 0
LeavesFit = (id : List ℕ) (moment : ℕ) → IsName id → moment ≤ largest → Fits (Leave id moment)

-- and so does a report on any message
abbrev pub ReportsFit : Type 0
ReportsFit = (summary : ℕ) (found : Bool) (moment : ℕ) → 1 ≤ summary → summary ≤ largest → moment ≤ largest → Fits (Report summary found moment)

-- ---- what fits is in the grammar

-- names, numbers and nesting in the grammar, and a record that isn't too long
pub record IsShortInGrammar (raw : Raw) : Type 0 where
  pub in_grammar : IsInGrammar raw
  pub short : length (raw_printed raw) ≤ longest_record

-- a raw entry fits exactly where it is in the grammar and its record isn't too long
abbrev pub FittingIsInGrammar : Type 0
FittingIsInGrammar = (raw : Raw) → Fits raw ↔ IsShortInGrammar raw

-- ---- the message of an entry that fits

-- the most bytes of a message's text: 32 MiB. A join's detail stands as a text inside a text there
abbrev pub longest_message : ℕ
longest_message = 33554432

-- a message in the grammar whose text isn't too long and is read back as the message
pub record IsReadBack (m : Message) : Type 0 where
  pub in_grammar : IsMessage m
  pub short : length (message_printed m) ≤ longest_message
  pub read_back : message_spelled (message_printed m) ≡ Ok m

-- a handle of 20 bytes, where there is one
abbrev pub HasHandle : Answer → Type 0
HasHandle Dropped = Unit {0}
HasHandle (Ack handle) = length handle ≡ 20
HasHandle (Refused rule) = Unit {0}

-- the message of a raw entry that gets this number and this minimum
pub record IsMessageOf (raw : Raw) (number minimum : ℕ) (m : Message) : Type 0 where
  -- how reports are answered
  pub answers : ℕ → Bool → Answer
  pub handles : (summary : ℕ) (found : Bool) → HasHandle (answers summary found)
  -- the message but for its minimum
  pub bare : Message
  pub said : unsettled number answers raw ≡ Some bare
  pub is : m ≡ record bare { minimum = minimum }

-- whatever its number and its minimum are
abbrev pub MessagesAreReadBack : Type 0
MessagesAreReadBack =
    (raw : Raw) (number minimum : ℕ) (m : Message) → Fits raw → number ≤ largest → minimum ≤ largest → IsMessageOf raw number minimum m → IsReadBack m

-- the message of an entry that is sequenced behind a legal ledger whose last number isn't the largest
abbrev pub SequencedAreReadBack : Type 0
SequencedAreReadBack = (l : Ledger) (raw : Raw) (m : Message) → IsLegal l → seq l < largest → Fits raw → verdict l raw ≡ Sequenced m → IsReadBack m

-- ---- no fault of a text is want of memory

-- no text has want of memory as its fault, however deep its value may be
abbrev pub ValuesWantNoMemory : Type 0
ValuesWantNoMemory = (top : ℕ) (s : List ℕ) → IfErr (answer_within top s) (λ fault. fault ≢ json.NoMemory)

-- a value, or another fault than want of memory
abbrev pub WantsNoMemory : {A : Type 0} → Read A → Type 0
WantsNoMemory read = IfErr read (λ fault. fault ≢ NoMemory)

abbrev pub RecordsWantNoMemory : Type 0
RecordsWantNoMemory = (s : List ℕ) → WantsNoMemory (raw_spelled s)

abbrev pub MessagesWantNoMemory : Type 0
MessagesWantNoMemory = (s : List ℕ) → WantsNoMemory (message_spelled s)

abbrev pub EventsWantNoMemory : Type 0
EventsWantNoMemory = (s : List ℕ) → WantsNoMemory (event_spelled s)
