-- Sequencer and scribe together: what they keep of the entries so far, the verdict of the next one, and what it makes of it.
use Rattle.std.specs.Prelude.{◌≡◌, ℕ, ◌-◌, ◌^◌, ◌<◌, ◌≤◌, nat_le, ◌&&◌, if◌then◌else◌, Bool, [], filter, fold, Option, Some, None, refl}
use Rattle.std.specs.Coded.{Coded, code_by, coded×, coded_option}
use Rattle.fluid_types.specs.declared.entries.Raw.{Raw}
use Rattle.fluid_types.specs.declared.entries.Raw.TheVariants.{Join, Leave, Submit, Report}
use Rattle.fluid_types.specs.declared.verdicts.Verdict.{Verdict}
use Rattle.fluid_types.specs.declared.verdicts.Verdict.TheVariants.{Sequenced, Nacked, Dropped, Absorbed}
use Rattle.fluid_types.specs.contracts.verdicts.Verdict as verdicts
use Rattle.fluid_types.specs.Ledger.{Ledger, order, messages_of}
use Rattle.fluid_types.specs.Quorum.{quorum_of}
use Rattle.fluid_clients.specs.Table.{Parts}
use Rattle.fluid_quorum.specs.declared.state.ScribeState.{ScribeState}
use Rattle.fluid_rules.specs.Rules.{IsLegal}
use Rattle.fluid_rules.specs.declared.answers.Answer.{Answer}
use Rattle.fluid_rules.specs.declared.answers.Answer.TheVariants.{Dropped as unanswered}
use Rattle.fluid_scribe.specs.State as scribe
use Rattle.fluid_scribe.specs.Jobs.{answer_in, job_in}
use Rattle.fluid_scribe.specs.Scribing as scribing
use Rattle.fluid_scribe.specs.Within.{is_up_to}
use Rattle.fluid_scribe.specs.Within.{within as scribe_within}
use Rattle.fluid_scribe.specs.declared.job.Job.{Job}
use Rattle.fluid_scribe.specs.declared.ready.ScribeReady.{ScribeReady}
use Rattle.fluid_scribe.specs.contracts.ready.ScribeReady as notes
use Rattle.fluid_ticket.specs.State as ticket
use Rattle.fluid_ticket.specs.Ledger as ledger
use Rattle.fluid_ticket.specs.declared.ready.Change.{Change}
use Rattle.fluid_ticket.specs.contracts.ready.Change as changes

-- what the sequencer keeps, and what the scribe keeps
pub record State : Type 0 where
  pub sequencer : ticket.State
  pub scribe : ScribeState

-- a sequencer's parts as its state
abbrev pub sequencer_of : Parts → ticket.State
sequencer_of p = record { sequence = p.sequence; last_minimum = p.minimum; rows = p.rows }

-- no entries yet
abbrev pub start : State
start = record { sequencer = ticket.start; scribe = scribe.start }

-- the scribe's answer to a report; no other entry asks for one
abbrev pub asked : ScribeState → Raw → Answer
asked s (Join id scopes detail moment) = unanswered
asked s (Leave id moment) = unanswered
asked s (Submit id submission moment) = unanswered
asked s (Report summary found moment) = answer_in s summary found

-- as far as the sequencer hears it: a report on a number that no message has is dropped
abbrev pub answer_for : State → Raw → Answer
answer_for s raw = ticket.heard s.sequencer raw (asked s.scribe raw)

-- the verdict of the next entry
unfoldable pub verdict_in : State → Raw → Verdict
verdict_in s raw = ticket.verdict_in s.sequencer (answer_for s raw) raw

-- the state behind an entry that got this verdict: the scribe takes its message, where it has one
unfoldable pub after : State → Raw → Verdict → State
after s raw verdict = record {
  sequencer = ticket.after s.sequencer raw verdict;
  scribe = fold scribe.after s.scribe (messages_of verdict);
}

-- ---- the state of a ledger

unfoldable pub state_of : Ledger → State
state_of l = record { sequencer = ledger.state_of l; scribe = scribe.state_of (order l) }

-- a state stands for a legal ledger where it is what the ledger says
pub record StandsFor (s : State) (l : Ledger) : Type 0 where
  pub legal : IsLegal l
  pub is : s ≡ state_of l

-- ---- the pending summarize

abbrev pub IsUpTo : (last number : ℕ) → Type 0
IsUpTo last number = (1 ≤ number) × (number ≤ last)

-- a job on a number that no message has, or that refers ahead of it, counts for nothing
abbrev pub on_order : (last : ℕ) → Option Job → Option Job
on_order last None = None
on_order last (Some job) = if is_up_to last job.summary && nat_le job.reference job.summary then Some job else None

-- what is to be done about the pending summarize
unfoldable pub job_of : State → Option Job
job_of s = on_order s.sequencer.sequence (job_in s.scribe)

-- ---- parts that may come from anywhere

-- what of a state lies within its order
abbrev pub within : State → State
within s =
    let sequencer = ticket.within_order s.sequencer in
    record { sequencer = sequencer; scribe = scribe_within sequencer.sequence s.scribe }

-- ---- an entry that is prepared

-- what the sequencer prepared, and what the scribe prepared for the message, where there is one
pub record Prepared : Type 0 where
  pub ticket : ticket.Prepared
  pub note : Option ScribeReady

abbrev pub prepared_code : Coded Prepared
prepared_code =
    code_by (Verdict × (Change × Option ScribeReady)) (coded× verdicts.the_row.coded (coded× changes.the_row.coded (coded_option notes.the_row.coded)))
    (λ p. (p.ticket.verdict, (p.ticket.change, p.note)))
    (λ parts. record { ticket = record { verdict = parts.0; change = parts.1.0 }; note = parts.1.1 })
    (λ _. refl)

-- what the scribe prepares for the message of a verdict
abbrev pub note_for : ScribeState → Verdict → Option ScribeReady
note_for s (Sequenced m) = Some (scribing.prepared s m)
note_for s (Nacked nack) = None
note_for s Dropped = None
note_for s Absorbed = None

-- what an entry is prepared as
unfoldable pub prepared : State → Raw → Prepared
prepared s raw = record {
  ticket = ticket.prepared s.sequencer (answer_for s raw) raw;
  note = note_for s.scribe (verdict_in s raw);
}

-- ---- a core

-- its state, and for how many more clients and messages there is room already
pub record Entering : Type 0 where
  pub state : State
  pub clients : ℕ
  pub notes : ℕ

-- there is room for the message, where there is one
abbrev pub HasRoom : Option ScribeReady → ℕ → Type 0
HasRoom None room = Unit {0}
HasRoom (Some note) room = 0 < room

-- the ready is that of an entry in the state that the core is in, with the room that it may need
pub record IsPreparedIn (c : Entering) (ready : Prepared) : Type 0 where
  pub raw : Raw
  pub is : ready ≡ prepared c.state raw
  pub numbered : c.state.sequencer.sequence < 2 ^ 53 - 1
  pub joining : 0 < c.clients
  pub noting : HasRoom ready.note c.notes

-- ---- for private clauses

-- the scribe's part behind what it prepared, whichever message that was
abbrev pub CanTake : scribing.Scribing → Option ScribeReady → Type 0
CanTake s None = Unit {0}
CanTake s (Some note) = scribing.IsPreparedIn s note

-- it took the message of a verdict
abbrev pub Takes : (old new : ScribeState) → Option ScribeReady → Type 0
Takes old new note = (verdict : Verdict) → note ≡ note_for old verdict → new ≡ fold scribe.after old (messages_of verdict)
