-- What a restart makes of a lane, by its answer.
use Rattle.std.specs.Prelude.{◌≡◌, ◌≢◌, ◌≤◌, ℕ, ⊤, false, ◌⊎◌, codes, Some, Result, Ok, Err, IfErr, OnOk}
use Rattle.std.specs.FinMap.{keys}
use Rattle.fluid_io.specs.Causes.{Tells}
use Rattle.fluid_log.specs.Keeping.{Content}
use Rattle.fluid_log.specs.Calls.{KeepsSame}
use Rattle.fluid_checkpoint.specs.declared.fault.CheckpointFault.TheVariants.{BadField}
use Rattle.fluid_document.specs.Entries.{Entries, InMemory}
use Rattle.fluid_deltas.specs.declared.pages.TheConstants.{RESIDENT}
use Rattle.fluid_document.specs.Puts.{PutsFirst, PutsFew}
use Rattle.fluid_document.specs.Loading.{loaded, ReadsBehind, PutsDeltas}
use Rattle.fluid_document.specs.declared.fault.LoadFault.TheVariants as loading
use Rattle.fluid_lane.specs.declared.fault.LaneFault.{LaneFault}
use Rattle.fluid_lane.specs.declared.fault.LaneFault.TheVariants.{LogFailed, BadRecord, NoCheckpoint, DeltaFailed, BadCheckpoint, Worn}
use Rattle.fluid_lane.specs.Faults.{IsCausedBy}
use Rattle.fluid_lane.specs.Standing.{Standing}
use Rattle.fluid_lane.specs.Refusals.{IsCutFailed}
use Rattle.fluid_lane.specs.Calls.{cut_back, SettledBy}

-- what was read has other clients than the lane
pub record HasOthers (number : ℕ) (old : Entries) (content : Content) (answer : LaneFault) : Type 0 where
  pub entries : Entries
  pub is : loaded content (Some number) ≡ Ok entries
  pub others : keys entries.state.sequencer.rows ≢ keys old.state.sequencer.rows
  pub answered : answer ≡ BadCheckpoint number (BadField (codes "clients"))

-- what the entries made is what is read from the checkpoint on, and exactly the records behind it were read
pub record IsRestarted (number : ℕ) (old new : Standing) (content : Content) : Type 0 where
  pub loads : loaded content (Some number) ≡ Ok new.entries
  pub reads : ReadsBehind (Some number) old.entries.entered old.keeping.reads new.keeping.reads content

-- a bad record or checkpoint is the one that is read
abbrev pub RefusesRestart : ℕ → Entries → Content → LaneFault → Type 0
RefusesRestart number old content (BadRecord place) = loaded content (Some number) ≡ Err (loading.BadRecord place)
RefusesRestart number old content (BadCheckpoint bad fault) =
    (loaded content (Some number) ≡ Err (loading.BadCheckpoint bad fault)) ⊎ HasOthers number old content (BadCheckpoint bad fault)
RefusesRestart number old content other = ⊤

abbrev pub RestartsBy : {A : Type 0} → ℕ → Standing → Standing → Result A LaneFault → Content → Type 0
RestartsBy number old new (Ok done) content = IsRestarted number old new content
RestartsBy number old new (Err fault) content = RefusesRestart number old.entries content fault

-- deltas may be put to make room, and nothing else is changed
abbrev pub RestartKept : {A : Type 0} → Standing → Standing → Result A LaneFault → Type 0
RestartKept old new (Err (LogFailed note)) = IsCutFailed old new ⊎ ((new.owed ≡ false) × PutsDeltas (cut_back old) new.keeping)
RestartKept old new (Err Worn) = KeepsSame old.keeping new.keeping
RestartKept old new (Err (NoCheckpoint asked stored)) = KeepsSame (cut_back old) new.keeping
RestartKept old new other = PutsDeltas (cut_back old) new.keeping

-- after a fault the lane is as it was
abbrev pub StaysBy : {A : Type 0} → Standing → Standing → Result A LaneFault → Type 0
StaysBy old new (Ok done) = (new.entries.entered ≡ old.entries.entered) × (keys new.entries.state.sequencer.rows ≡ keys old.entries.state.sequencer.rows)
StaysBy old new (Err fault) = (new.entries ≡ old.entries) × (new.messages ≡ old.messages)

-- of so many entries deltas are put only where they are as many as messages may be in memory
abbrev pub IsAtDeltas : ℕ → LaneFault → Type 0
IsAtDeltas entered (DeltaFailed note) = RESIDENT ≤ entered
IsAtDeltas entered other = ⊤

-- a call that restarts
pub record Restarts {A : Type 0} (number : ℕ) (old new : Standing) (result : Result A LaneFault) : Type 0 where
  pub stays : StaysBy old new result
  pub settled_by : SettledBy new result
  pub cause : IfErr result (IsCausedBy old.keeping.faults new.keeping.faults)
  pub kept : RestartKept old new result
  pub loads : Tells (cut_back old).content (RestartsBy number old new result)
  -- the deltas that are put are those that the keeper lacked before the messages that are in memory then, and after a fault none
  -- above the number of entries less the messages that are in memory without a page
  pub early : OnOk result (PutsFirst new.messages.before old.keeping new.keeping)
  pub lacked : PutsFew old.entries.entered old.keeping new.keeping
  pub at_deltas : IfErr result (IsAtDeltas old.entries.entered)

-- nothing that was read is refused
abbrev pub IsNotBad : LaneFault → Type 0
IsNotBad (BadRecord place) = ⊥
IsNotBad (BadCheckpoint number fault) = ⊥
IsNotBad other = ⊤

-- what was read for a restart
abbrev pub Reloads : ℕ → Entries → Content → Result InMemory LaneFault → Type 0
Reloads number old content (Ok read) = loaded content (Some number) ≡ Ok read.entries
Reloads number old content (Err fault) = RefusesRestart number old content fault
