-- What the calls of a lane that enter or store do to it and to its keeper, by the answer, whether the keeper tells its content or not.
use Rattle.std.specs.Prelude.{◌≡◌, ℕ, ◌+◌, ◌<◌, is_some, ◌≤◌, ⊤, true, false, ◌⊎◌, List, length, slice_get, Some, Result, Ok, Err, IfOk, IfErr, if◌then◌else◌}
use Rattle.fluid_io.specs.Causes.{Tells}
use Rattle.fluid_types.specs.declared.entries.Raw.{Raw}
use Rattle.fluid_types.specs.declared.messages.Message.{Message}
use Rattle.fluid_types.specs.Printed.{raw_printed}
use Rattle.fluid_log.specs.Keeping.{Content, Keeping}
use Rattle.fluid_log.specs.Calls.{KeepsSame, with_record, cut_to, with_checkpoint}
use Rattle.fluid_deltas.specs.Flushes.{lacking, with_deltas, PutsPrefix}
use Rattle.fluid_document.specs.Entries.{Entries, taken_up}
use Rattle.fluid_document.specs.Kept.{checkpoint_text, IsPrinted}
use Rattle.fluid_document.specs.Rooms.{for_room, roomed}
use Rattle.fluid_document.specs.Entry.{PutsSome}
use Rattle.fluid_lane.specs.declared.fault.LaneFault.{LaneFault}
use Rattle.fluid_lane.specs.declared.fault.LaneFault.TheVariants.{LogFailed, CheckpointsFull, DeltaFailed, NoMemory, TooLarge, Worn}
use Rattle.std.specs.Option.{option_or}
use Rattle.fluid_lane.specs.declared.steps.Step.{Step}
use Rattle.fluid_lane.specs.Steps.{ledger, asides, last_side}
use Rattle.fluid_lane.specs.Faults.{IsCausedBy}
use Rattle.fluid_lane.specs.Standing.{Standing}
use Rattle.fluid_lane.specs.Refusals.{IsCutFailed}

-- the keeper behind the cut that is owed, where one is
abbrev pub cut_back : Standing → Keeping
cut_back s = if s.owed then cut_to s.entries.entered s.keeping else s.keeping

-- ---- calls that enter

-- the entry was entered, or nothing was
abbrev pub TakesUp : {A : Type 0} → Entries → Entries → Raw → Result A LaneFault → Type 0
TakesUp old new raw (Ok a) = new ≡ taken_up old raw
TakesUp old new raw (Err fault) = new ≡ old

-- where the keeper failed at the log a cut is owed then, and behind any other answer none. Where the lane was worn nothing was looked at
abbrev pub OwesBy : {A : Type 0} → Standing → Result A LaneFault → Type 0
OwesBy new (Ok a) = new.owed ≡ false
OwesBy new (Err (LogFailed note)) = new.owed ≡ true
OwesBy new (Err Worn) = ⊤
OwesBy new (Err other) = new.owed ≡ false

-- the record was added to this keeper behind the deltas that make room; after a failed append it was or wasn't, and where the
-- keeper failed while deltas were put, it has some of those and not all
abbrev pub AddKept : {A : Type 0} → Raw → Standing → Keeping → Keeping → Result A LaneFault → Type 0
AddKept raw s old new (Ok a) = KeepsSame (with_record (raw_printed raw) (roomed s.messages old)) new
AddKept raw s old new (Err (LogFailed note)) = KeepsSame (roomed s.messages old) new ⊎ KeepsSame (with_record (raw_printed raw) (roomed s.messages old)) new
AddKept raw s old new (Err (DeltaFailed note)) = PutsPrefix (for_room s.messages old.deltas) old new
AddKept raw s old new (Err other) = PutsSome (for_room s.messages old.deltas) old new

abbrev pub EnterKept : {A : Type 0} → Raw → Standing → Standing → Result A LaneFault → Type 0
EnterKept raw old new (Err (LogFailed note)) = IsCutFailed old new ⊎ AddKept {A = Unit {0}} raw old (cut_back old) new.keeping (Err (LogFailed note))
EnterKept raw old new (Err Worn) = KeepsSame old.keeping new.keeping
EnterKept raw old new (Err (DeltaFailed note)) = AddKept {A = Unit {0}} raw old (cut_back old) new.keeping (Err (DeltaFailed note))
EnterKept raw old new (Err NoMemory) = AddKept {A = Unit {0}} raw old (cut_back old) new.keeping (Err NoMemory)
EnterKept raw old new (Err other) = KeepsSame (cut_back old) new.keeping
EnterKept raw old new (Ok a) = KeepsSame (with_record (raw_printed raw) (roomed old.messages (cut_back old))) new.keeping

-- a call that enters this entry
pub record Enters {A : Type 0} (raw : Raw) (old new : Standing) (result : Result A LaneFault) : Type 0 where
  pub entries : TakesUp old.entries new.entries raw result
  pub owes : OwesBy new result
  pub cause : IfErr result (IsCausedBy old.keeping.faults new.keeping.faults)
  pub reads : new.keeping.reads ≡ old.keeping.reads
  pub kept : EnterKept raw old new result

-- ---- for private clauses

-- the keeper failed at the deltas, or memory was wanting
abbrev pub IsFlushFault : LaneFault → Type 0
IsFlushFault (DeltaFailed note) = ⊤
IsFlushFault NoMemory = ⊤
IsFlushFault other = ⊥

-- the keeper failed at the log, or memory was wanting
abbrev pub IsOutsideLog : LaneFault → Type 0
IsOutsideLog (LogFailed note) = ⊤
IsOutsideLog NoMemory = ⊤
IsOutsideLog other = ⊥

-- a flush puts all that the keeper lacks; after a fault it has put some of it, and not all
abbrev pub FlushKept : {A : Type 0} → List Message → Keeping → Keeping → Result A LaneFault → Type 0
FlushKept messages old new (Ok a) = KeepsSame (with_deltas messages old) new
FlushKept messages old new (Err fault) = PutsPrefix messages old new

-- all that a call leaves but the list for which the lane stands
pub record IsBeside (old new : Standing) (added : List Step) : Type 0 where
  pub limits : new.limits ≡ old.limits
  pub opened : new.opened ≡ old.opened
  pub told : is_some new.keeping.content ≡ is_some old.keeping.content
  pub later : old.keeping.faults ≤ new.keeping.faults
  pub entered : new.entries.entered ≡ old.entries.entered + length (ledger added)
  pub sides : new.sides ≡ old.sides + asides added
  pub last : new.last ≡ option_or (last_side added) old.last

-- ---- checkpoints

-- the messages that the keeper lacks
abbrev pub missing : Standing → List Message
missing s = lacking s.messages s.keeping.deltas

-- the keeper behind the cut and a flush
abbrev pub flushed : Standing → Keeping
flushed s = with_deltas (missing s) (cut_back s)

-- the checkpoint of this number has this text
abbrev pub HasCheckpoint : ℕ → List ℕ → Content → Type 0
HasCheckpoint number text content = slice_get content.checkpoints number ≡ Some text

-- where no rule refuses a checkpoint: the keeper failed, memory was wanting, or the text is longer than the document takes
abbrev pub IsStoreFault : Standing → LaneFault → Type 0
IsStoreFault s (LogFailed note) = ⊤
IsStoreFault s (DeltaFailed note) = ⊤
IsStoreFault s NoMemory = ⊤
IsStoreFault s (TooLarge bytes) = (bytes ≡ length (checkpoint_text s.entries)) × (s.limits.bytes < bytes)
IsStoreFault s other = ⊥

-- behind any other answer than one that the log failed or the lane was worn no cut is owed
abbrev pub SettledBy : {A : Type 0} → Standing → Result A LaneFault → Type 0
SettledBy new (Ok a) = new.owed ≡ false
SettledBy new (Err (LogFailed note)) = ⊤
SettledBy new (Err Worn) = ⊤
SettledBy new (Err other) = new.owed ≡ false

abbrev pub StoreKept : {A : Type 0} → Standing → Standing → Result A LaneFault → Type 0
StoreKept old new (Ok number) = KeepsSame (with_checkpoint (checkpoint_text old.entries) (flushed old)) new.keeping
StoreKept old new (Err (LogFailed note)) = IsCutFailed old new ⊎ ((length (checkpoint_text old.entries) ≤ old.limits.bytes) × ((new.owed ≡ false) × KeepsSame (flushed old) new.keeping))
StoreKept old new (Err CheckpointsFull) = KeepsSame (cut_back old) new.keeping
StoreKept old new (Err (TooLarge bytes)) = KeepsSame (flushed old) new.keeping
StoreKept old new (Err Worn) = KeepsSame old.keeping new.keeping
StoreKept old new (Err (DeltaFailed note)) = PutsPrefix (missing old) (cut_back old) new.keeping
StoreKept old new (Err other) = PutsSome (missing old) (cut_back old) new.keeping

-- what was stored has the next number, and it is what the entries made
pub record IsStored (old new : Standing) (number : ℕ) : Type 0 where
  pub next : number ≡ old.keeping.checkpoints
  pub short : length (checkpoint_text old.entries) ≤ old.limits.bytes
  pub there : Tells new.keeping.content (HasCheckpoint number (checkpoint_text old.entries))
  -- it is the text of what the entries made, and read as that
  pub printed : IsPrinted old.entries (checkpoint_text old.entries)

-- a call that stores a checkpoint
pub record Stores (old new : Standing) (result : Result ℕ LaneFault) : Type 0 where
  pub same : (new.entries ≡ old.entries) × (new.messages ≡ old.messages)
  pub settled_by : SettledBy new result
  pub cause : IfErr result (IsCausedBy old.keeping.faults new.keeping.faults)
  pub reads : new.keeping.reads ≡ old.keeping.reads
  pub kept : StoreKept old new result
  pub stored : IfOk result (IsStored old new)
