-- How a lane begins: behind what is kept comes a leave of each client that is joined.
use Rattle.std.specs.Prelude.{◌≡◌, ℕ, ◌+◌, ◌<◌, ◌≤◌, ⊤, ◌⊎◌, false, List, [], ◌∷◌, ◌++◌, length, map, Option, None, is_some, Result, Ok, Err}
use Rattle.std.specs.FinMap.{keys, len}
use Rattle.fluid_io.specs.Causes.{Tells}
use Rattle.fluid_types.specs.Fits.{Fits}
use Rattle.fluid_types.specs.Ledger.{Ledger}
use Rattle.fluid_types.specs.declared.entries.Raw.{Raw}
use Rattle.fluid_types.specs.declared.entries.Raw.TheVariants.{Leave}
use Rattle.fluid_types.specs.declared.messages.Message.{Message}
use Rattle.fluid_log.specs.Keeping.{Content, Keeping}
use Rattle.fluid_log.specs.Calls.{KeepsSame, with_records}
use Rattle.fluid_deltas.specs.Flushes.{with_deltas}
use Rattle.fluid_deltas.specs.declared.pages.TheConstants.{RESIDENT}
use Rattle.fluid_core.specs.Entering.{State, verdict_in, after, state_of}
use Rattle.fluid_document.specs.declared.fault.EnterFault.{EnterFault}
use Rattle.fluid_document.specs.declared.fault.EnterFault.TheVariants as entering
use Rattle.fluid_document.specs.declared.fault.LoadFault.TheVariants as loading
use Rattle.fluid_types.specs.Forms.{largest}
use Rattle.fluid_document.specs.Entries.{Entries, InMemory, taken_up}
use Rattle.fluid_document.specs.Entry.{EntersBy}
use Rattle.fluid_document.specs.Loading.{loaded, newest, ReadsBehind}
use Rattle.fluid_document.specs.Puts.{PutsFirst, PutsEarly, PutsFew}
use Rattle.fluid_document.specs.Kept.{records, IsKept}
use Rattle.fluid_rules.specs.declared.limits.Limits.{Limits}
use Rattle.fluid_lane.specs.declared.fault.LaneFault.{LaneFault}
use Rattle.fluid_lane.specs.declared.fault.LaneFault.TheVariants.{LogFailed, BadRecord, DeltaFailed, NoMemory, BadCheckpoint, Worn}
use Rattle.fluid_lane.specs.Faults.{IsCausedBy, IsLogFailed}
use Rattle.fluid_lane.specs.Steps.{steps}
use Rattle.fluid_lane.specs.Standing.{Standing, IsFor, LaneStands}
use Rattle.fluid_lane.specs.Restarts.{IsNotBad}

-- raw entries with the verdicts that they get one after another
abbrev pub run : State → List Raw → Ledger
run s [] = []
run s (raw ∷ raws) = (raw, verdict_in s raw) ∷ run (after s raw (verdict_in s raw)) raws

-- a leave of each joined client, in byte order of the ids
abbrev pub leaves : ℕ → State → List Raw
leaves moment s = map (λ id. Leave id moment) (keys s.sequencer.rows)

-- raw entries taken up one after another
abbrev pub takes : Entries → List Raw → Entries
takes e [] = e
takes e (raw ∷ raws) = takes (taken_up e raw) raws

-- the ledger with a leave of each client that is joined in it
abbrev pub opening : ℕ → Ledger → Ledger
opening moment l = l ++ run (state_of l) (leaves moment (state_of l))

-- these records were added at the end of the log, and some messages among the deltas
pub record Grew (more : List (List ℕ)) (old new : Keeping) : Type 0 where
  pub messages : List Message
  pub kept : KeepsSame (with_deltas messages (with_records more old)) new

-- ---- leave by leave, for private clauses

-- the first of the joined clients
pub record IsFirst (moment : ℕ) (before : InMemory) (id : List ℕ) : Type 0 where
  pub rest : List (List ℕ)
  pub first : keys before.entries.state.sequencer.rows ≡ id ∷ rest
  pub fits : Fits (Leave id moment)
  pub few : before.entries.entered < largest

-- the leave of the first client was given to the log, with this answer
pub record LeavesFirst (moment : ℕ) (old new : Keeping) (before now : InMemory) (result : Result (Unit {0}) EnterFault) : Type 0 where
  pub id : List ℕ
  pub is : IsFirst moment before id
  pub enters : EntersBy (Leave id moment) old new before now result

-- nothing was asked of the keeper
pub record Waits (old new : Keeping) (before now : InMemory) : Type 0 where
  pub same : KeepsSame old new
  pub stays : now ≡ before

abbrev pub LeaveDoes : ℕ → Keeping → Keeping → InMemory → InMemory → Result (Unit {0}) LaneFault → Type 0
LeaveDoes moment old new before now (Ok done) = LeavesFirst moment old new before now (Ok tt)
LeaveDoes moment old new before now (Err (LogFailed note)) = LeavesFirst moment old new before now (Err (entering.LogFailed note))
LeaveDoes moment old new before now (Err (DeltaFailed note)) = LeavesFirst moment old new before now (Err (entering.DeltaFailed note)) × (RESIDENT ≤ before.entries.entered)
LeaveDoes moment old new before now (Err NoMemory) = Waits old new before now ⊎ LeavesFirst moment old new before now (Err entering.NoMemory)
LeaveDoes moment old new before now (Err Worn) = Waits old new before now × (largest ≤ before.entries.entered)
LeaveDoes moment old new before now (Err other) = ⊥

-- some of the joined clients have left, the first ones
pub record HasLeft (moment : ℕ) (old new : Keeping) (before now : InMemory) : Type 0 where
  pub done : Ledger
  pub splits : run before.entries.state (leaves moment before.entries.state) ≡ done ++ run now.entries.state (leaves moment now.entries.state)
  pub folds : takes before.entries (leaves moment before.entries.state) ≡ takes now.entries (leaves moment now.entries.state)
  pub entered : now.entries.entered ≡ before.entries.entered + length done
  pub few : before.entries.entered ≤ largest → now.entries.entered ≤ largest
  pub count : len now.entries.state.sequencer.rows + length done ≡ len before.entries.state.sequencer.rows
  pub grew : Grew (records done) old new
  pub later : old.faults ≤ new.faults
  pub reads : new.reads ≡ old.reads
  pub reached : now.messages.before ≤ new.deltas
  pub early : PutsEarly before.messages.before now.messages.before old new
  pub lacked : PutsFew now.entries.entered old new
  pub stands : (l : Ledger) → Tells old.content (IsFor false before.entries before.messages l) → Tells new.content (IsFor false now.entries now.messages (l ++ done))

-- some, and not all
pub record HasSomeLeft (moment : ℕ) (old new : Keeping) (before now : InMemory) : Type 0 where
  pub has : HasLeft moment old new before now
  pub more : 0 < len now.entries.state.sequencer.rows

-- behind them the leave of the next one, with this fault
pub record HasStopped (moment : ℕ) (old new : Keeping) (before now : InMemory) (fault : EnterFault) : Type 0 where
  pub mid : Keeping
  pub here : InMemory
  pub has : HasLeft moment old mid before here
  pub next : LeavesFirst moment mid new here now (Err fault)

-- all have left, or the faults that may come before
abbrev pub LeavesAll : ℕ → Keeping → Keeping → InMemory → InMemory → Result (Unit {0}) LaneFault → Type 0
LeavesAll moment old new before now (Ok done) = HasLeft moment old new before now × (keys now.entries.state.sequencer.rows ≡ [])
LeavesAll moment old new before now (Err (LogFailed note)) = HasStopped moment old new before now (entering.LogFailed note)
LeavesAll moment old new before now (Err (DeltaFailed note)) = HasStopped moment old new before now (entering.DeltaFailed note) × (RESIDENT ≤ now.entries.entered)
LeavesAll moment old new before now (Err NoMemory) = HasSomeLeft moment old new before now ⊎ HasStopped moment old new before now entering.NoMemory
LeavesAll moment old new before now (Err Worn) = HasSomeLeft moment old new before now × (largest ≤ now.entries.entered)
LeavesAll moment old new before now (Err other) = ⊥

-- ---- the start

-- what was read of a keeper: where it tells its content, all from the newest checkpoint on
abbrev pub IsRead : Keeping → Entries → Type 0
IsRead old entries = Tells old.content (λ content. loaded content (newest old.checkpoints) ≡ Ok entries)

-- a leave of each client that is joined in what was read was taken up behind it, and the keeper has their records behind the old ones
pub record IsOpened (moment : ℕ) (old : Keeping) (new : Standing) : Type 0 where
  pub entries : Entries
  pub is : IsRead old entries
  pub behind : new.entries ≡ takes entries (leaves moment entries.state)
  pub grew : Grew (records (run entries.state (leaves moment entries.state))) old new.keeping

-- a lane that has just begun: no side step, no cut owed, nobody joined
pub record IsFresh (old : Keeping) (limits : Limits) (new : Standing) : Type 0 where
  pub limits_are : new.limits ≡ limits
  pub opened : new.opened ≡ old.checkpoints
  pub sides : new.sides ≡ 0
  pub last : new.last ≡ None
  pub owed : new.owed ≡ false
  pub nobody : keys new.entries.state.sequencer.rows ≡ []
  pub told : is_some new.keeping.content ≡ is_some old.content
  pub later : old.faults ≤ new.keeping.faults

-- a lane was started: over a keeper that is kept for a ledger it stands for it with the leaves, and no side step
pub record Starts (old : Keeping) (limits : Limits) (moment : ℕ) (new : Standing) : Type 0 where
  pub stands : (l : Ledger) → Tells old.content (IsKept false l) → Tells old.content (λ _. LaneStands new (steps (opening moment l)))
  -- over a keeper that is kept, and over one that doesn't tell its content, it stands for some list, without side steps
  pub some : Tells old.content (λ content. (l : Ledger) × IsKept false l content) → (l : Ledger) × LaneStands new (steps l)
  pub loads : IsOpened moment old new
  -- exactly the records behind the newest checkpoint were read
  pub reads : Tells old.content (ReadsBehind (newest old.checkpoints) old.records old.reads new.keeping.reads)
  pub fresh : IsFresh old limits new
  -- the deltas that are put are those that the keeper lacked before the messages that are in memory then
  pub early : PutsFirst new.messages.before old new.keeping
  pub lacked : PutsFew new.entries.entered old new.keeping

-- the keeper that comes back with a fault is kept for the ledger with some of the leaves, that of a failed append among them
pub record LeftSome (moment : ℕ) (l : Ledger) (content : Content) : Type 0 where
  pub done : Ledger
  pub rest : Ledger
  pub splits : run (state_of l) (leaves moment (state_of l)) ≡ done ++ rest
  pub kept : IsKept false (l ++ done) content

-- what was read has more joined clients than there are numbers left for their leaves
pub record HasNoRoom (from : Option ℕ) (content : Content) : Type 0 where
  pub entries : Entries
  pub is : loaded content from ≡ Ok entries
  pub full : largest < entries.entered + len entries.state.sequencer.rows

-- which fault a start has: a bad record or checkpoint is the one that is read, and it is worn where the numbers don't suffice for
-- the records or for the leaves
abbrev pub StartsBad : Option ℕ → Content → LaneFault → Type 0
StartsBad from content (LogFailed note) = ⊤
StartsBad from content (DeltaFailed note) = ⊤
StartsBad from content NoMemory = ⊤
StartsBad from content (BadRecord place) = loaded content from ≡ Err (loading.BadRecord place)
StartsBad from content (BadCheckpoint number fault) = loaded content from ≡ Err (loading.BadCheckpoint number fault)
StartsBad from content Worn = (loaded content from ≡ Err loading.Worn) ⊎ HasNoRoom from content
StartsBad from content other = ⊥

-- which faults a start has over every keeper, by the records that are then in the log: deltas are put only where these are as many as
-- messages may be in memory, and it is worn only where they are as many as there are numbers
abbrev pub IsFaultOfStart : (records : ℕ) → LaneFault → Type 0
IsFaultOfStart records (LogFailed note) = ⊤
IsFaultOfStart records (DeltaFailed note) = RESIDENT ≤ records
IsFaultOfStart records NoMemory = ⊤
IsFaultOfStart records (BadRecord place) = ⊤
IsFaultOfStart records (BadCheckpoint number fault) = ⊤
IsFaultOfStart records Worn = largest ≤ records
IsFaultOfStart records other = ⊥

-- these are the first leaves of those joined in what was read; all of them only where the log failed
pub record StopsAtLeave (moment : ℕ) (old : Keeping) (added : Ledger) (fault : LaneFault) : Type 0 where
  pub entries : Entries
  pub is : IsRead old entries
  pub rest : Ledger
  pub splits : run entries.state (leaves moment entries.state) ≡ added ++ rest
  pub short : IsLogFailed fault ⊎ (0 < length rest)

-- whose records a start has added, by its fault: none where what was read is refused, else the first leaves
abbrev pub Adds : ℕ → Keeping → Ledger → LaneFault → Type 0
Adds moment old added (BadRecord place) = added ≡ []
Adds moment old added (BadCheckpoint number fault) = added ≡ []
Adds moment old added other = (added ≡ []) ⊎ StopsAtLeave moment old added other

-- nothing that a kept keeper gives is refused. Behind the old records stand those of some leaves, and perhaps some deltas were
-- put, none above the number of records less the messages that are in memory without a page
pub record StartsPartly (old new : Keeping) (moment : ℕ) (fault : LaneFault) : Type 0 where
  pub left : (l : Ledger) → Tells old.content (IsKept false l) → Tells new.content (LeftSome moment l)
  pub never : (l : Ledger) → Tells old.content (IsKept false l) → Tells old.content (λ _. IsNotBad fault)
  pub bad : Tells old.content (λ content. StartsBad (newest old.checkpoints) content fault)
  pub named : IsFaultOfStart new.records fault
  pub cause : IsCausedBy old.faults new.faults fault
  pub added : Ledger
  pub grew : Grew (records added) old new
  pub adds : Adds moment old added fault
  pub lacked : PutsFew new.records old new
