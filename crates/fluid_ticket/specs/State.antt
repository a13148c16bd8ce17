-- What is kept of the entries so far, the verdict of the next one in it, and what that verdict makes of it.
use Rattle.std.specs.Prelude.{◌≡◌, ℕ, min, ◌+◌, ◌-◌, ◌^◌, ◌<◌, ◌≤◌, ℤ, pos, negsuc, nat_lt, nat_le, int_lt, Bool, true, false, not, ◌&&◌, ◌||◌, if◌then◌else◌, List, [], ◌∷◌, length, Option, Some, None, is_some, IsSome, unwrap_or, option_map, refl}
use Rattle.std.specs.Coded.{Coded, code_by, coded×, coded_ℕ, coded_list}
use Rattle.std.specs.FinMap.{empty, get, insert, remove, code}
use Rattle.fluid_types.specs.declared.entries.Raw.{Raw}
use Rattle.fluid_types.specs.declared.entries.Raw.TheVariants.{Join, Leave, Submit, Report}
use Rattle.fluid_types.specs.declared.entries.Submission.{Submission}
use Rattle.fluid_json.specs.Tree.{Tree, is_null}
use Rattle.fluid_types.specs.declared.messages.Kind.{Kind}
use Rattle.fluid_types.specs.declared.messages.Message.{Message}
use Rattle.fluid_types.specs.declared.nacks.NackRule.TheVariants.{Gap, Nonexistent, Below, Ahead, Scope}
use Rattle.fluid_types.specs.declared.verdicts.Verdict.{Verdict}
use Rattle.fluid_types.specs.declared.verdicts.Verdict.TheVariants.{Sequenced, Nacked, Dropped, Absorbed}
use Rattle.fluid_types.specs.Ledger.{messages_of}
use Rattle.fluid_rules.specs.Past.{is_below, count_of}
use Rattle.fluid_rules.specs.Rules.{leaves_reference, read_as, kind_of, is_noop, last_minimum_behind, submission_message, answer_message, unsettled, sequenced}
use Rattle.fluid_rules.specs.Scribe.{is_summarize}
use Rattle.fluid_rules.specs.declared.answers.Answer.{Answer}
use Rattle.fluid_rules.specs.declared.answers.Answer.TheVariants.{Dropped as unanswered}
use Rattle.fluid_clients.specs.declared.table.Row.{Row}
use Rattle.fluid_clients.specs.Table.{Rows, Table, change_row, least, least_with, rows_up_to, row_code}
use Rattle.fluid_ticket.specs.declared.ready.Change.{Change}
use Rattle.fluid_ticket.specs.declared.ready.Change.TheVariants.{Nothing, Joins, Leaves, Accepts, Holds, Hears}
use Rattle.fluid_ticket.specs.declared.outcome.Outcome.{Outcome}
use Rattle.fluid_ticket.specs.declared.outcome.Outcome.TheVariants.{Duplicate, Refused, Admitted}

-- the last sequence number, the minimum of the last message, and the row of each joined client under its id
pub record State : Type 0 where
  pub sequence : ℕ
  pub last_minimum : ℕ
  pub rows : Rows

-- as a tuple of its parts
abbrev pub state_code : Coded State
state_code =
    code_by (ℕ × (ℕ × Rows)) (coded× coded_ℕ (coded× coded_ℕ (code (coded_list coded_ℕ) row_code)))
    (λ s. (s.sequence, (s.last_minimum, s.rows)))
    (λ parts. record { sequence = parts.0; last_minimum = parts.1.0; rows = parts.1.1 })
    (λ _. refl)

-- nothing was sequenced and nobody is joined
abbrev pub start : State
start = record { sequence = 0; last_minimum = 0; rows = empty }

-- the least reference of the joined clients, and the last sequence number where nobody is joined
abbrev pub minimum : State → ℕ
minimum s = unwrap_or (least s.rows) s.sequence

-- ---- what an entry with its verdict changes

-- a client that joins enters with number 0 at the minimum; a submission that was sequenced or absorbed brings its number and
-- its reference; one that was refused as below the minimum brings its number and holds its client at the minimum; and every
-- entry of a client is heard
unfoldable pub change_of : State → Raw → Verdict → Change
change_of s (Join id scopes detail moment) (Sequenced message) =
    Joins id (record { last = 0; reference = minimum s; nacked = false; scopes = scopes; heard = moment })
change_of s (Leave id moment) (Sequenced message) = Leaves id
change_of s (Submit id submission moment) (Sequenced message) = Accepts id submission.client_number (count_of message.reference) moment
change_of s (Submit id submission moment) (Nacked nack) =
    if is_below nack.rule then Holds id submission.client_number (count_of nack.minimum) moment else Hears id moment
change_of s (Submit id submission moment) Absorbed = Accepts id submission.client_number (read_as s.sequence submission.reference) moment
change_of s (Submit id submission moment) Dropped = Hears id moment
change_of s (Join id scopes detail moment) verdict = Hears id moment
change_of s (Leave id moment) verdict = Hears id moment
change_of s (Report summary found moment) verdict = Nothing

abbrev pub changed : Change → Rows → Rows
changed Nothing rows = rows
changed (Joins id row) rows = insert rows id row
changed (Leaves id) rows = remove rows id
changed (Accepts id number reference moment) rows =
    change_row id (λ row. record row { last = number; reference = reference; heard = moment }) rows
changed (Holds id number minimum moment) rows =
    change_row id (λ row. record row { last = number; reference = minimum; nacked = true; heard = moment }) rows
changed (Hears id moment) rows = change_row id (λ row. record row { heard = moment }) rows

-- the state behind an entry that got this verdict
unfoldable pub after : State → Raw → Verdict → State
after s raw verdict = record {
  sequence = s.sequence + length (messages_of verdict);
  last_minimum = last_minimum_behind s.last_minimum verdict;
  rows = changed (change_of s raw verdict) s.rows;
}

-- ---- the verdict

-- a message with the minimum that holds behind its entry
abbrev pub settled_in : State → Raw → Message → Message
settled_in s raw m = record m { minimum = minimum (after s raw (Sequenced m)) }

-- the message of an entry that is sequenced next, where a report gets this answer: it has the next number, and the minimum
-- that holds behind it
unfoldable pub message_in : State → Answer → Raw → Option Message
message_in s answer raw = option_map (settled_in s raw) (unsettled (s.sequence + 1) (λ summary found. answer) raw)

-- the first case that fits
abbrev pub first_fit : {X : Type 0} → List (Bool × X) → X → X
first_fit [] otherwise = otherwise
first_fit (row ∷ rows) otherwise = if row.0 then row.1 else first_fit rows otherwise

-- a reference that isn't left to the service and is below the minimum
abbrev pub is_below_minimum : ℕ → ℤ → Bool
is_below_minimum minimum reference = not (leaves_reference reference) && int_lt reference (pos minimum)

-- a summarize of a client that may not summarize
abbrev pub lacks_scope : Submission → Row → Bool
lacks_scope submission row = is_summarize (kind_of submission.kind) && not row.scopes.summary

-- a number that isn't negative, and another one in place of a negative number
abbrev pub given_or : ℕ → ℤ → ℕ
given_or number (pos n) = n
given_or number (negsuc n) = number

-- what becomes of a submission of the client with this row, by the last sequence number and the minimum: one that
-- was counted already is a duplicate, and one may be refused by the first rule that it breaks
unfoldable pub outcome_by : ℕ → ℕ → Row → Submission → Outcome
outcome_by sequence minimum row submission =
    first_fit
    ((nat_le submission.client_number row.last, Duplicate)
    ∷ (nat_lt (row.last + 1) submission.client_number, Refused Gap)
    ∷ (row.nacked, Refused Nonexistent)
    ∷ (is_below_minimum minimum submission.reference, Refused Below)
    ∷ (int_lt (pos sequence) submission.reference, Refused Ahead)
    ∷ (lacks_scope submission row, Refused Scope)
    ∷ [])
    Admitted

-- a client that isn't joined has no row
abbrev pub outcome_at : State → Option Row → Submission → Outcome
outcome_at s None submission = Refused Nonexistent
outcome_at s (Some row) submission = outcome_by s.sequence (minimum s) row submission

abbrev pub outcome : State → List ℕ → Submission → Outcome
outcome s id submission = outcome_at s (get s.rows id) submission

-- what the least reference would be, were the client's that of this submission, with -1 read as the last sequence number
abbrev pub lifted : State → List ℕ → Submission → ℕ
lifted s id submission = unwrap_or (least_with s.rows id (read_as s.sequence submission.reference)) s.sequence

-- a noop that asks for no number, or that lifts the minimum to no more than the last message says
abbrev pub is_absorbed : State → List ℕ → Submission → Bool
is_absorbed s id submission = is_noop submission.kind && (is_null submission.contents || nat_le (lifted s id submission) s.last_minimum)

-- a nack carries the submission and the minimum
abbrev pub verdict_of : State → List ℕ → Submission → ℕ → Outcome → Verdict
verdict_of s id submission moment Duplicate = Dropped
verdict_of s id submission moment (Refused rule) = Nacked (record { rule = rule; operation = Some submission; minimum = pos (minimum s) })
verdict_of s id submission moment Admitted =
    if is_absorbed s id submission
    then Absorbed
    else Sequenced (settled_in s (Submit id submission moment) (submission_message (s.sequence + 1) id submission moment))

-- a join of a joined client and a leave of one that isn't joined are dropped, and so is a report that isn't answered. The
-- answer is looked at only for a report
unfoldable pub verdict_in : State → Answer → Raw → Verdict
verdict_in s answer (Join id scopes detail moment) =
    if is_some (get s.rows id) then Dropped else sequenced (message_in s answer (Join id scopes detail moment))
verdict_in s answer (Leave id moment) = if is_some (get s.rows id) then sequenced (message_in s answer (Leave id moment)) else Dropped
verdict_in s answer (Submit id submission moment) = verdict_of s id submission moment (outcome s id submission)
verdict_in s answer (Report summary found moment) = sequenced (message_in s answer (Report summary found moment))

-- the answer that an entry gets: a report on a number that no message of the order has is dropped, whatever was answered
abbrev pub heard : State → Raw → Answer → Answer
heard s (Join id scopes detail moment) answer = answer
heard s (Leave id moment) answer = answer
heard s (Submit id submission moment) answer = answer
heard s (Report summary found moment) answer = if nat_le summary s.sequence then answer else unanswered

-- the minimum of a message is at most this number
abbrev pub HasMinimumUpTo : ℕ → Verdict → Type 0
HasMinimumUpTo number (Sequenced m) = m.minimum ≤ number
HasMinimumUpTo number (Nacked nack) = Unit {0}
HasMinimumUpTo number Dropped = Unit {0}
HasMinimumUpTo number Absorbed = Unit {0}

-- ---- an entry that is prepared

-- a verdict with the change that it makes
pub record Prepared : Type 0 where
  pub verdict : Verdict
  pub change : Change

-- what an entry is prepared as
unfoldable pub prepared : State → Answer → Raw → Prepared
prepared s answer raw = record { verdict = verdict_in s answer raw; change = change_of s raw (verdict_in s answer raw) }

-- for private clauses: a report that is answered by a message of this kind and these contents
abbrev pub answered : State → Kind → Tree → ℕ → Prepared
answered s kind contents moment =
    let m = answer_message (s.sequence + 1) moment (kind, contents) in
    record { verdict = Sequenced (record m { minimum = unwrap_or (least s.rows) (s.sequence + 1) }); change = Nothing }

-- ---- a sequencer

-- its state, and for how many more clients there is room already
pub record Sequencing : Type 0 where
  pub state : State
  pub spare : ℕ

abbrev pub sequencing_code : Coded Sequencing
sequencing_code =
    code_by (State × ℕ) (coded× state_code coded_ℕ) (λ q. (q.state, q.spare)) (λ parts. record { state = parts.0; spare = parts.1 }) (λ _. refl)

-- the ready is that of an entry in the state that the sequencer is in, with the room that it may need
pub record IsPreparedIn (q : Sequencing) (ready : Prepared) : Type 0 where
  pub answer : Answer
  pub raw : Raw
  pub is : ready ≡ prepared q.state answer raw
  pub numbered : q.state.sequence < 2 ^ 53 - 1
  pub room : 0 < q.spare

-- the table has what a change speaks of, and room for it
abbrev pub CanApply : Change → Table → Type 0
CanApply Nothing table = Unit {0}
CanApply (Joins id row) table = (get table.rows id ≡ None) × (0 < table.spare)
CanApply (Leaves id) table = Unit {0}
CanApply (Accepts id number reference moment) table = IsSome (get table.rows id) × (0 < table.spare)
CanApply (Holds id number minimum moment) table = IsSome (get table.rows id) × (0 < table.spare)
CanApply (Hears id moment) table = Unit {0}

-- ---- what holds of every sequencer

-- no reference is ahead of the order
pub record IsSound (s : State) : Type 0 where
  pub few : s.sequence ≤ 2 ^ 53 - 1
  pub rows : (id : List ℕ) (row : Row) → get s.rows id ≡ Some row → row.reference ≤ s.sequence

-- a minimum ahead of the order counts for nothing
abbrev pub minimum_up_to : (last minimum : ℕ) → ℕ
minimum_up_to last minimum = if nat_le minimum last then minimum else 0

-- what of a state lies within the order: no number is above the largest, and a reference ahead of the order is its last number
abbrev pub within_order : State → State
within_order s =
    let last = min s.sequence (2 ^ 53 - 1) in
    record { sequence = last; last_minimum = minimum_up_to last s.last_minimum; rows = rows_up_to last s.rows }

-- a sound state with its minimum
pub record IsSoundWith (s : State) (least : ℕ) : Type 0 where
  pub sound : IsSound s
  pub is_minimum : least ≡ minimum s
