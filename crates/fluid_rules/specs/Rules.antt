-- The sequencing rules. A ledger stands oldest first; each rule reads it from its end, as a past.
use Rattle.std.specs.Prelude.{◌≡◌, ℕ, ◌+◌, pos, negsuc, nat_lt, nat_le, int_lt, Bool, true, false, not, ◌&&◌, ◌||◌, if◌then◌else◌, List, [], ◌∷◌, ◌++◌, reverse, map, filter, min, fold, Option, Some, None, unwrap_or, option_map, bytes_eq}
use Rattle.std.specs.List.{last_or}
use Rattle.fluid_json.specs.Tree.{Tree, is_null, null, text, object, members}
use Rattle.fluid_json.specs.Printed.{printed}
use Rattle.fluid_types.specs.declared.entries.Raw.{Raw}
use Rattle.fluid_types.specs.declared.entries.Raw.TheVariants.{Join, Leave, Submit, Report}
use Rattle.fluid_types.specs.declared.entries.Scopes.{Scopes}
use Rattle.fluid_types.specs.declared.entries.Offered.{Offered}
use Rattle.fluid_types.specs.declared.entries.Offered.TheVariants as offered
use Rattle.fluid_types.specs.declared.entries.Submission.{Submission}
use Rattle.fluid_types.specs.declared.messages.Kind.{Kind}
use Rattle.fluid_types.specs.declared.messages.Kind.TheVariants as kind
use Rattle.fluid_types.specs.declared.messages.Message.{Message}
use Rattle.fluid_types.specs.declared.nacks.NackRule.{NackRule}
use Rattle.fluid_types.specs.declared.nacks.NackRule.TheVariants.{Gap, Nonexistent, Below, Ahead, Scope}
use Rattle.fluid_types.specs.declared.nacks.Nack.{Nack}
use Rattle.fluid_types.specs.declared.verdicts.Verdict.{Verdict}
use Rattle.fluid_types.specs.declared.verdicts.Verdict.TheVariants.{Sequenced, Nacked, Dropped, Absorbed}
use Rattle.fluid_types.specs.declared.fault.Field.TheVariants as field
use Rattle.fluid_types.specs.Printed.{row}
use Rattle.fluid_types.specs.Ledger.{Ledger, order, seq, raws}
use Rattle.fluid_rules.specs.Past as past
pub use Rattle.fluid_rules.specs.Past.{leaves_reference, read_as}
pub use Rattle.fluid_rules.specs.Cases.{first_case}
use Rattle.fluid_rules.specs.Scribe.{is_summarize, answer, reported}
use Rattle.fluid_rules.specs.declared.answers.Answer.{Answer}

-- a ledger from its last entry back to its first
unfoldable pub past_of : Ledger → past.Past
past_of ledger = reverse ledger

-- ---- what a ledger says of a client

-- the client is joined: its last sequenced join or leave is a join
unfoldable pub is_joined : Ledger → List ℕ → Bool
is_joined ledger c = past.is_joined (past_of ledger) c

-- the client number of its latest submission since it joined that was sequenced, absorbed, or refused as below the
-- minimum; 0 where there is none
unfoldable pub last_number : Ledger → List ℕ → ℕ
last_number ledger c = past.last_number (past_of ledger) c

-- since it joined, a submission of it was refused as below the minimum
unfoldable pub is_nacked : Ledger → List ℕ → Bool
is_nacked ledger c = past.is_nacked (past_of ledger) c

-- since it joined: the minimum that its latest refusal as below the minimum names, or else the reference of its latest
-- submission that was sequenced or absorbed, or else the minimum of the entries before its join. The reference of one that was
-- sequenced is that in its message; of one that was absorbed its own, with -1 read as the last sequence number before it
unfoldable pub reference : Ledger → List ℕ → ℕ
reference ledger c = past.reference (past_of ledger) c

-- the scopes of the join by which it is in; none are held where it isn't joined
unfoldable pub scopes : Ledger → List ℕ → Scopes
scopes ledger c = unwrap_or (past.membership (past_of ledger) c) (record { read = false; write = false; summary = false })

-- the moment of the latest entry of a joined client from its join on, whatever its verdict; 0 of one that never spoke
unfoldable pub heard : Ledger → List ℕ → ℕ
heard ledger c = past.heard (past_of ledger) c

-- all of it together, of a joined client; nothing of another
unfoldable pub client : Ledger → List ℕ → Option past.Client
client ledger c = past.client (past_of ledger) c

-- how often, since it joined, a submission of the client was refused as below the minimum
unfoldable pub refusals : Ledger → List ℕ → ℕ
refusals ledger c = past.refusals (past_of ledger) c

-- ---- the ledger as a whole

-- the ids of the joined clients, in byte order
unfoldable pub joined : Ledger → List (List ℕ)
joined ledger = past.joined (past_of ledger)

-- the least reference of the joined clients, and the last sequence number where nobody is joined
unfoldable pub minimum : Ledger → ℕ
minimum ledger = past.minimum (past_of ledger)

-- the minimum in the last message of the order, and 0 where there is none
unfoldable pub last_minimum : Ledger → ℕ
last_minimum ledger = unwrap_or (option_map (λ m. m.minimum) (last_or None (order ledger))) 0

-- behind an entry it is that of the entry's message, where it has one
abbrev pub last_minimum_behind : ℕ → Verdict → ℕ
last_minimum_behind before (Sequenced m) = m.minimum
last_minimum_behind before (Nacked nack) = before
last_minimum_behind before Dropped = before
last_minimum_behind before Absorbed = before

-- what the least reference would be, were the client's that of this submission, with -1 read as the last sequence number
unfoldable pub lifted : Ledger → List ℕ → Submission → ℕ
lifted ledger c submission =
    fold min (read_as (seq ledger) submission.reference) (map (reference ledger) (filter (λ d. not (bytes_eq d c)) (joined ledger)))

-- ---- the message of a sequenced entry

-- the kind of a message of this submission
abbrev pub kind_of : Offered → Kind
kind_of offered.Op = kind.Op
kind_of offered.Noop = kind.Noop
kind_of offered.Propose = kind.Propose
kind_of offered.Reject = kind.Reject
kind_of offered.Summarize = kind.Summarize

-- what a join says to the clients
abbrev pub join_data : List ℕ → Tree → Tree
join_data id detail = object (members (row field.ClientId (text id) ∷ row field.Detail detail ∷ []))

-- a message that no client sent
abbrev pub system_message : Kind → ℕ → Option (List ℕ) → ℕ → Message
system_message kind number system moment = record {
  client = None;
  client_number = negsuc 0;
  reference = negsuc 0;
  number = number;
  minimum = 0;
  kind = kind;
  contents = null;
  system = system;
  metadata = None;
  moment = moment;
}

-- the message of a client's submission, but for its minimum
abbrev pub submission_message : ℕ → List ℕ → Submission → ℕ → Message
submission_message number id submission moment = record {
  client = Some id;
  client_number = pos submission.client_number;
  reference = if leaves_reference submission.reference then pos number else submission.reference;
  number = number;
  minimum = 0;
  kind = kind_of submission.kind;
  contents = submission.contents;
  system = None;
  metadata = submission.metadata;
  moment = moment;
}

-- the message of a report that is answered by this kind and these contents, but for its minimum
abbrev pub answer_message : ℕ → ℕ → Kind × Tree → Message
answer_message number moment said = record (system_message said.0 number None moment) { contents = said.1 }

-- the message of an entry that gets this number, but for its minimum, where reports are answered so: the report on a
-- summarize is answered by its number and whether its tree was found. A report that is dropped has no message
unfoldable pub unsettled : ℕ → (answers : ℕ → Bool → Answer) → Raw → Option Message
unsettled number answers (Join id scopes detail moment) =
    Some (system_message kind.Join number (Some (printed (join_data id detail))) moment)
unsettled number answers (Leave id moment) = Some (system_message kind.Leave number (Some (printed (text id))) moment)
unsettled number answers (Submit id submission moment) = Some (submission_message number id submission moment)
unsettled number answers (Report summary found moment) = option_map (answer_message number moment) (reported summary (answers summary found))

-- a message with the minimum of the ledger followed by its entry, which reads no minimum of a message
abbrev pub settled : Ledger → Raw → Message → Message
settled ledger raw m = record m { minimum = minimum (ledger ++ (raw, Sequenced m) ∷ []) }

-- the message of an entry that is sequenced next: it has the next number, a report is answered by the scribe over the order,
-- and the minimum is that which holds behind it
unfoldable pub message : Ledger → Raw → Option Message
message ledger raw = option_map (settled ledger raw) (unsettled (seq ledger + 1) (answer (order ledger)) raw)

-- ---- the verdict

-- an entry with a message is sequenced, and one without is dropped
abbrev pub sequenced : Option Message → Verdict
sequenced None = Dropped
sequenced (Some m) = Sequenced m

abbrev pub is_noop : Offered → Bool
is_noop offered.Op = false
is_noop offered.Noop = true
is_noop offered.Propose = false
is_noop offered.Reject = false
is_noop offered.Summarize = false

-- a nack carries the submission and the minimum
unfoldable pub nack : Ledger → Submission → NackRule → Nack
nack ledger submission rule = record { rule = rule; operation = Some submission; minimum = pos (minimum ledger) }

-- the cases of a submission: it was counted before
abbrev pub is_duplicate : Ledger → List ℕ → Submission → Bool
is_duplicate ledger c submission = is_joined ledger c && nat_le submission.client_number (last_number ledger c)

-- its client has left out a number
abbrev pub leaves_gap : Ledger → List ℕ → Submission → Bool
leaves_gap ledger c submission = is_joined ledger c && nat_lt (last_number ledger c + 1) submission.client_number

-- its client isn't joined, or was refused as below the minimum and hasn't left since
abbrev pub is_nonexistent : Ledger → List ℕ → Bool
is_nonexistent ledger c = not (is_joined ledger c) || is_nacked ledger c

-- it refers to a message below the minimum
abbrev pub is_below_minimum : Ledger → Submission → Bool
is_below_minimum ledger submission = not (leaves_reference submission.reference) && int_lt submission.reference (pos (minimum ledger))

-- it refers to a message that isn't there yet
abbrev pub is_ahead : Ledger → Submission → Bool
is_ahead ledger submission = int_lt (pos (seq ledger)) submission.reference

-- it is a summarize of a client that may not write summaries
abbrev pub lacks_scope : Ledger → List ℕ → Submission → Bool
lacks_scope ledger c submission = is_summarize (kind_of submission.kind) && not (scopes ledger c).summary

-- it is a noop that asks for no number, or that lifts the minimum to no more than the last message says
abbrev pub is_absorbed : Ledger → List ℕ → Submission → Bool
is_absorbed ledger c submission =
    is_noop submission.kind && (is_null submission.contents || nat_le (lifted ledger c submission) (last_minimum ledger))

-- the verdict on a submission is that of the first case that fits; where none does, it is sequenced
unfoldable pub submission_verdict : Ledger → List ℕ → Submission → ℕ → Verdict
submission_verdict ledger c submission moment =
    first_case
    ((is_duplicate ledger c submission, Dropped)
    ∷ (leaves_gap ledger c submission, Nacked (nack ledger submission Gap))
    ∷ (is_nonexistent ledger c, Nacked (nack ledger submission Nonexistent))
    ∷ (is_below_minimum ledger submission, Nacked (nack ledger submission Below))
    ∷ (is_ahead ledger submission, Nacked (nack ledger submission Ahead))
    ∷ (lacks_scope ledger c submission, Nacked (nack ledger submission Scope))
    ∷ (is_absorbed ledger c submission, Absorbed)
    ∷ [])
    (sequenced (message ledger (Submit c submission moment)))

-- the verdict of an entry over the ledger before it: a join of a joined client and a leave of one that isn't
-- joined are dropped, and so is a report that the scribe doesn't answer
unfoldable pub verdict : Ledger → Raw → Verdict
verdict ledger (Join id scopes detail moment) =
    if is_joined ledger id then Dropped else sequenced (message ledger (Join id scopes detail moment))
verdict ledger (Leave id moment) = if is_joined ledger id then sequenced (message ledger (Leave id moment)) else Dropped
verdict ledger (Submit id submission moment) = submission_verdict ledger id submission moment
verdict ledger (Report summary found moment) = sequenced (message ledger (Report summary found moment))

-- ---- legal ledgers

-- each verdict behind this ledger is that over the entries before it
abbrev pub IsLegalBehind : Ledger → Ledger → Type 0
IsLegalBehind before [] = Unit {0}
IsLegalBehind before (entry ∷ ledger) = (entry.1 ≡ verdict before entry.0) × IsLegalBehind (before ++ entry ∷ []) ledger

-- each verdict is that over the entries before it
abbrev pub IsLegal : Ledger → Type 0
IsLegal ledger = IsLegalBehind [] ledger

-- this ledger, followed by these raw entries, each with its verdict over all before it
abbrev pub ledger_behind : Ledger → List Raw → Ledger
ledger_behind before [] = before
ledger_behind before (raw ∷ raws) = ledger_behind (before ++ (raw, verdict before raw) ∷ []) raws

-- these raw entries behind this ledger, each with its verdict over all before it
abbrev pub entries_behind : Ledger → List Raw → Ledger
entries_behind before [] = []
entries_behind before (raw ∷ raws) = (raw, verdict before raw) ∷ entries_behind (before ++ (raw, verdict before raw) ∷ []) raws

-- the ledger of these raw entries: the only legal one
unfoldable pub ledger : List Raw → Ledger
ledger raws = ledger_behind [] raws
