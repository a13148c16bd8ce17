-- What entering one entry does to a keeper and to what is kept in memory, by the answer.
use Rattle.std.specs.Prelude.{◌≡◌, ◌⊎◌, ◌≤◌, ⊤, ℕ, List, [], ◌++◌, take, Result, Ok, Err, IfErr}
use Rattle.fluid_io.specs.Causes.{Tells}
use Rattle.fluid_types.specs.Ledger.{messages_of}
use Rattle.fluid_types.specs.Printed.{raw_printed}
use Rattle.fluid_types.specs.declared.entries.Raw.{Raw}
use Rattle.fluid_types.specs.declared.messages.Message.{Message}
use Rattle.fluid_types.specs.declared.verdicts.Verdict.{Verdict}
use Rattle.fluid_log.specs.Keeping.{Keeping, IsText}
use Rattle.fluid_log.specs.Calls.{KeepsSame, with_record}
use Rattle.fluid_deltas.specs.Pushed.{StandFor}
use Rattle.fluid_deltas.specs.Ranges.{IsNoted}
use Rattle.fluid_deltas.specs.Flushes.{with_deltas, PutsPrefix}
use Rattle.fluid_core.specs.Entering.{verdict_in}
use Rattle.fluid_document.specs.Entries.{InMemory, GoOn, taken_up}
use Rattle.fluid_document.specs.Puts.{PutsEarly, PutsFew}
use Rattle.fluid_document.specs.Rooms.{for_room, roomed}
use Rattle.fluid_document.specs.declared.fault.EnterFault.{EnterFault}
use Rattle.fluid_document.specs.declared.fault.EnterFault.TheVariants.{LogFailed, DeltaFailed, NoMemory}

-- a fault of the keeper has the counts that were read round the call that failed
abbrev pub IsEnterFault : (before now : ℕ) → EnterFault → Type 0
IsEnterFault before now (LogFailed note) = IsNoted before now note
IsEnterFault before now (DeltaFailed note) = IsNoted before now note
IsEnterFault before now NoMemory = ⊤

-- some of these messages were put, from the first one on, maybe none
pub record PutsSome (messages : List Message) (old new : Keeping) : Type 0 where
  pub count : ℕ
  pub kept : KeepsSame (with_deltas (take count messages) old) new

-- the messages that an entry with this verdict adds to the order
abbrev pub added : {A E : Type 0} → Result A E → Verdict → List Message
added (Ok a) verdict = messages_of verdict
added (Err fault) verdict = []

-- ---- room, for private clauses

-- a keeper that failed put some of the messages that make room, and not all of them. Where memory was wanting all may be there
abbrev pub RoomFails : List Message → Keeping → Keeping → EnterFault → Type 0
RoomFails messages old new (LogFailed note) = ⊥
RoomFails messages old new (DeltaFailed note) = PutsPrefix messages old new
RoomFails messages old new NoMemory = PutsSome messages old new

abbrev pub RoomDoes : {A : Type 0} → List Message → Keeping → Keeping → Result A EnterFault → Type 0
RoomDoes messages old new (Ok a) = KeepsSame (with_deltas messages old) new
RoomDoes messages old new (Err fault) = RoomFails messages old new fault

-- ---- the record, for private clauses

-- the record stands in the log or doesn't
pub record IsTorn (text : List ℕ) (old new : Keeping) : Type 0 where
  pub is_text : IsText text
  pub left : KeepsSame old new ⊎ KeepsSame (with_record text old) new

pub record IsAppended (text : List ℕ) (old new : Keeping) : Type 0 where
  pub is_text : IsText text
  pub kept : KeepsSame (with_record text old) new

abbrev pub AppendFails : List ℕ → Keeping → Keeping → EnterFault → Type 0
AppendFails text old new (LogFailed note) = IsTorn text old new
AppendFails text old new NoMemory = KeepsSame old new
AppendFails text old new other = ⊥

abbrev pub Appends : {A : Type 0} → List ℕ → Keeping → Keeping → Result A EnterFault → Type 0
Appends text old new (Ok a) = IsAppended text old new
Appends text old new (Err fault) = AppendFails text old new fault

pub record Finishes (raw : Raw) (before now : InMemory) : Type 0 where
  pub entries : now.entries ≡ taken_up before.entries raw
  pub messages : GoOn before.messages now.messages (verdict_in before.entries.state raw)

abbrev pub FinishDoes : {A : Type 0} → Raw → InMemory → InMemory → Result A EnterFault → Type 0
FinishDoes raw before now (Ok a) = Finishes raw before now
FinishDoes raw before now (Err fault) = now ≡ before

-- ---- the entry

-- the entry was entered, and its record stands at the end of the log
pub record EntersOne (raw : Raw) (old new : Keeping) (before now : InMemory) : Type 0 where
  pub entries : now.entries ≡ taken_up before.entries raw
  pub text : IsText (raw_printed raw)
  pub kept : KeepsSame (with_record (raw_printed raw) (roomed before.messages old)) new
  pub early : PutsEarly before.messages.before now.messages.before old new

-- nothing was entered. Behind an append that failed the record stands in the log or doesn't; a keeper that failed while deltas
-- were put has some of those that make room, and not all of them
abbrev pub LeavesOut : Raw → Keeping → Keeping → InMemory → EnterFault → Type 0
LeavesOut raw old new before (LogFailed note) = IsTorn (raw_printed raw) (roomed before.messages old) new
LeavesOut raw old new before (DeltaFailed note) = PutsPrefix (for_room before.messages old.deltas) old new
LeavesOut raw old new before NoMemory = PutsSome (for_room before.messages old.deltas) old new

abbrev pub EnterDoes : {A : Type 0} → Raw → Keeping → Keeping → InMemory → InMemory → Result A EnterFault → Type 0
EnterDoes raw old new before now (Ok a) = EntersOne raw old new before now
EnterDoes raw old new before now (Err fault) = (now.entries ≡ before.entries) × LeavesOut raw old new before fault

-- what one call that enters an entry does
pub record EntersBy {A : Type 0} (raw : Raw) (old new : Keeping) (before now : InMemory) (result : Result A EnterFault) : Type 0 where
  pub later : old.faults ≤ new.faults
  pub reads : new.reads ≡ old.reads
  pub cause : IfErr result (IsEnterFault old.faults new.faults)
  pub does : EnterDoes raw old new before now result
  -- the messages in memory stand for the order, with the entry's message where it was entered
  pub stands : (order : List Message) → Tells old.content (StandFor before.messages order)
      → Tells new.content (StandFor now.messages (order ++ added result (verdict_in before.entries.state raw)))
  pub reached : now.messages.before ≤ new.deltas
  pub lacked : PutsFew before.entries.entered old new
