-- How the entries of a document are read out of what a keeper keeps: a checkpoint, and the log behind it.
use Rattle.std.specs.Prelude.{◌≡◌, ℕ, ◌+◌, ◌-◌, ◌^◌, ◌<◌, ◌≤◌, nat_le, min, ⊤, List, [], ◌∷◌, length, drop, slice_get, codes, Option, Some, None, Result, Ok, Err, if◌then◌else◌}
use Rattle.std.specs.Str.{is_utf8}
use Rattle.fluid_types.specs.Forms.{Read, largest}
use Rattle.fluid_types.specs.Fits.{longest_record}
use Rattle.fluid_types.specs.Printed.{raw_printed}
use Rattle.fluid_types.specs.Records.{raw_spelled}
use Rattle.fluid_types.specs.declared.entries.Raw.{Raw}
use Rattle.fluid_types.specs.declared.messages.Message.{Message}
use Rattle.fluid_log.specs.Keeping.{Content, Keeping}
use Rattle.fluid_log.specs.Calls.{KeepsSame}
use Rattle.fluid_deltas.specs.Flushes.{with_deltas}
use Rattle.fluid_core.specs.Entering.{sequencer_of, within}
use Rattle.fluid_checkpoint.specs.Reading as checkpoint
use Rattle.fluid_checkpoint.specs.declared.state.State.{State as Checkpoint}
use Rattle.fluid_checkpoint.specs.declared.state.Form.{Form}
use Rattle.fluid_checkpoint.specs.declared.state.Form.TheVariants.{One, Two}
use Rattle.fluid_checkpoint.specs.declared.fault.CheckpointFault.{CheckpointFault}
use Rattle.fluid_checkpoint.specs.declared.fault.CheckpointFault.TheVariants.{BadField}
use Rattle.fluid_deltas.specs.declared.pages.TheConstants.{RESIDENT}
use Rattle.fluid_deltas.specs.Ranges.{IsNoted}
use Rattle.fluid_document.specs.Entries.{Entries, nothing_entered, taken_up}
use Rattle.fluid_document.specs.declared.fault.LoadFault.{LoadFault}
use Rattle.fluid_document.specs.declared.fault.LoadFault.TheVariants.{LogFailed, DeltaFailed, NoMemory, BadRecord, BadCheckpoint, Worn}

-- ---- one record

abbrev pub fitting : Read Raw → Option Raw
fitting (Ok raw) = if nat_le (length (raw_printed raw)) longest_record then Some raw else None
fitting (Err fault) = None

-- the raw entry of a record: the one that its text spells, where that fits a log
unfoldable pub record_in : List ℕ → Option Raw
record_in bytes = if is_utf8 bytes then fitting (raw_spelled bytes) else None

-- ---- the log behind what is folded already

abbrev pub with_record : ℕ → Option Raw → (Raw → Result Entries LoadFault) → Result Entries LoadFault
with_record place None rest = Err (BadRecord place)
with_record place (Some raw) rest = rest raw

-- each record is taken up, the first one that doesn't decode is the fault
unfoldable pub log_folded : Entries → List (List ℕ) → Result Entries LoadFault
log_folded f [] = Ok f
log_folded f (bytes ∷ log) =
    if nat_le largest f.entered then Err Worn else with_record f.entered (record_in bytes) (λ raw. log_folded (taken_up f raw) log)

-- ---- a checkpoint

-- what the entries made by the state of a checkpoint: a part outside the order counts for nothing
unfoldable pub entries_in : Checkpoint → Entries
entries_in s = record {
  state = within (record { sequencer = sequencer_of s.sequencer; scribe = s.scribe });
  entered = s.entered;
  counted = s.counted;
}

-- one of its members is refused
abbrev pub bad_member : ℕ → List ℕ → Result Entries LoadFault
bad_member number name = Err (BadCheckpoint number (BadField name))

-- a state has at most as many messages as entries, and all of them are among the deltas
abbrev pub begun_from : (number deltas : ℕ) → Checkpoint → Result Entries LoadFault
begun_from number deltas s =
    if nat_le s.sequencer.sequence (min s.entered deltas) then Ok (entries_in s) else bad_member number (codes "sequence")

-- one of version 1 has no moments, so all is read anew
abbrev pub begun_as : (number deltas : ℕ) → Form → Result Entries LoadFault
begun_as number deltas (Two s) = begun_from number deltas s
begun_as number deltas (One entered) = Ok nothing_entered

-- how many entries a checkpoint is of
abbrev pub entered_in : Form → ℕ
entered_in (Two s) = s.entered
entered_in (One entered) = entered

-- there have to be as many records
abbrev pub begun_by : (number records deltas : ℕ) → Result Form CheckpointFault → Result Entries LoadFault
begun_by number records deltas (Ok form) =
    if nat_le (entered_in form) records then begun_as number deltas form else bad_member number (codes "entered")
begun_by number records deltas (Err fault) = Err (BadCheckpoint number fault)

abbrev pub begun_in : (number records deltas : ℕ) → Option (List ℕ) → Result Entries LoadFault
begun_in number records deltas None = Ok nothing_entered
begun_in number records deltas (Some text) = begun_by number records deltas (checkpoint.answer text)

-- where a reading begins: at the checkpoint of this number, or behind no entries
unfoldable pub begun : Content → Option ℕ → Result Entries LoadFault
begun content None = Ok nothing_entered
begun content (Some number) = begun_in number (length content.log) (length content.deltas) (slice_get content.checkpoints number)

abbrev pub folded_behind : List (List ℕ) → Result Entries LoadFault → Result Entries LoadFault
folded_behind log (Ok f) = log_folded f (drop f.entered log)
folded_behind log (Err fault) = Err fault

-- what is read from there on
abbrev pub loaded : Content → Option ℕ → Result Entries LoadFault
loaded content from = folded_behind content.log (begun content from)

-- the newest of so many checkpoints
abbrev pub newest : ℕ → Option ℕ
newest count = if nat_le count 0 then None else Some (count - 1)

-- ---- answers

-- which faults a reading of so many records has. The keeper's count rose where it failed; deltas are put only where there are as
-- many records as messages may be in memory, and the numbers end only where there are more records than numbers
abbrev pub IsLoadFault : (records before now : ℕ) → LoadFault → Type 0
IsLoadFault records before now (LogFailed note) = IsNoted before now note
IsLoadFault records before now (DeltaFailed note) = IsNoted before now note × (RESIDENT ≤ records)
IsLoadFault records before now NoMemory = ⊤
IsLoadFault records before now (BadRecord place) = ⊤
IsLoadFault records before now (BadCheckpoint number fault) = ⊤
IsLoadFault records before now Worn = largest < records

-- a fault of what is kept is the definition's. Want of memory and a keeper that failed may come before it
abbrev pub IsBadAs : {A : Type 0} → Result A LoadFault → LoadFault → Type 0
IsBadAs answer (LogFailed note) = ⊤
IsBadAs answer (DeltaFailed note) = ⊤
IsBadAs answer NoMemory = ⊤
IsBadAs answer other = answer ≡ Err other

-- what was answered is the definition's answer
abbrev pub IsLoaded : {A B : Type 0} → (A → B) → Result A LoadFault → Result B LoadFault → Type 0
IsLoaded view (Ok a) answer = answer ≡ Ok (view a)
IsLoaded view (Err fault) answer = IsBadAs answer fault

-- so many records of the log were read
abbrev pub HasRead : ℕ → (before now : ℕ) → Type 0
HasRead count before now = before + count < 2 ^ 64 → now ≡ before + count

-- exactly those of these records were read that stand behind the checkpoint
pub record ReadsBehind (from : Option ℕ) (records before now : ℕ) (content : Content) : Type 0 where
  pub beginning : Entries
  pub is : begun content from ≡ Ok beginning
  pub count : HasRead (records - beginning.entered) before now

-- some messages were put among the deltas, and nothing else was changed
pub record PutsDeltas (old new : Keeping) : Type 0 where
  pub messages : List Message
  pub kept : KeepsSame (with_deltas messages old) new

-- the record in this place decodes so
pub record IsRecord (content : Content) (place : ℕ) (answer : Option Raw) : Type 0 where
  pub text : List ℕ
  pub kept : slice_get content.log place ≡ Some text
  pub decodes : record_in text ≡ answer

abbrev pub DecodesAs : Content → ℕ → Result Raw LoadFault → Type 0
DecodesAs content place (Ok raw) = IsRecord content place (Some raw)
DecodesAs content place (Err (LogFailed note)) = ⊤
DecodesAs content place (Err (DeltaFailed note)) = ⊤
DecodesAs content place (Err NoMemory) = ⊤
DecodesAs content place (Err (BadRecord bad)) = (bad ≡ place) × IsRecord content place None
DecodesAs content place (Err other) = ⊥

-- the checkpoint of this number says so
pub record IsSaid (content : Content) (number : ℕ) (answer : Result Form CheckpointFault) : Type 0 where
  pub text : List ℕ
  pub kept : slice_get content.checkpoints number ≡ Some text
  pub said : checkpoint.answer text ≡ answer

abbrev pub SaysAs : Content → ℕ → Result Form LoadFault → Type 0
SaysAs content number (Ok form) = IsSaid content number (Ok form)
SaysAs content number (Err (LogFailed note)) = ⊤
SaysAs content number (Err NoMemory) = ⊤
SaysAs content number (Err (BadCheckpoint bad fault)) = (bad ≡ number) × IsSaid content number (Err fault)
SaysAs content number (Err other) = ⊥
