-- What the end of a script says: its cause, what was written, and what the desk that comes back tells.
use Rattle.std.specs.Prelude.{◌≡◌, ◌⊎◌, ◌+◌, ℕ, Bool, true, false, List, [], ◌∷◌, ◌++◌, length, Option, Some, None, is_none}
use Rattle.std.specs.Str.Lines.{lines}
use Rattle.fluid_io.specs.Causes.{Rose, Tells}
use Rattle.fluid_io.specs.Streams.{Reading, Writing, Appends, AppendsPrefix}
use Rattle.fluid_log.specs.Shelving.{Shelving}
use Rattle.fluid_store.specs.Held.{IsShort}
use Rattle.fluid_store.specs.Keeping.{IsNoted}
use Rattle.fluid_store.specs.Storing.{Storing}
use Rattle.fluid_pipe.specs.Meaning.{Accepts}
use Rattle.fluid_pipe.specs.Output.{IsWhole, IsRefusedFor, IsBegun, IsInterrupted, IsCut, NoFault, ReadFailed, Wrote}
use Rattle.fluid_pipe.specs.declared.refusal.Refusal.{Refusal}
use Rattle.fluid_lane.specs.declared.fault.LaneFault.TheVariants.{Worn}
use Rattle.fluid_lanes.specs.Opened.{Opened}
use Rattle.fluid_lanes.specs.Closing.{Closes}
use Rattle.fluid_rules.specs.declared.limits.Limits.{Limits}
use Rattle.fluid_steps.specs.declared.refusal.LineWhy.{LineWhy}
use Rattle.fluid_transcript.specs.World.{World, Told, first_world}
use Rattle.fluid_transcript.specs.Transcript.{behind, written, loaded_last, last_line, why_of}
use Rattle.fluid_desk.specs.declared.stop.Stop.{Stop}
use Rattle.fluid_desk.specs.declared.stop.Stop.TheVariants as stop
use Rattle.fluid_desk.specs.declared.stop.StoredFault.{StoredFault}
use Rattle.fluid_desk.specs.declared.stop.StoredFault.TheVariants.{Lane}
use Rattle.fluid_desk.specs.Stands.{DeskStands, ShelvesTell, StoreStands}
use Rattle.fluid_holding.specs.Holding.{HoldsOwn}
use Rattle.fluid_door_link.specs.Hushing.{IsHushed}
use Rattle.fluid_containers.specs.Ending.{EndsForLinking, StopsForLinking}
use Rattle.fluid_world.specs.declared.ends.ScriptEnd.{ScriptEnd}
use Rattle.fluid_world.specs.declared.ends.ScriptEnd.TheVariants.{Done, BadLine, ReadFault, WriteFault, KeeperFault, StoreFault, BadStored, NoMemory}
use Rattle.fluid_world.specs.Taking.{Scripting, means, IsLong}

-- the end of a script that a step ended
abbrev pub end_for : Stop → ScriptEnd
end_for (stop.KeeperFault note) = KeeperFault note
end_for (stop.StoreFault note) = StoreFault note
end_for (stop.BadStored fault) = BadStored fault
end_for stop.NoMemory = NoMemory

-- the limits of the program for each document
abbrev pub full : Limits
full = record { entries = 4194304; clients = 1024; checkpoints = 4096; bytes = 1073741824 }

-- ---- causes

-- a source, a sink, shelves and a store at one moment of a run
pub record Outside : Type 0 where
  pub source : Reading
  pub sink : Writing
  pub shelves : Shelving
  pub store : Storing

-- neither the source nor the sink failed
abbrev pub IsQuiet : Outside → Outside → Type 0
IsQuiet before now = NoFault before.source before.sink now.source now.sink

-- what is stored is refused, on the open documents that were closed then, and by what is told of the store
pub record IsRefusedBy (before now : Outside) (fault : StoredFault) : Type 0 where
  pub opened : Opened
  pub closed : Closes opened now.shelves
  pub store : Storing
  pub hush : IsHushed now.store store
  pub since : Storing
  pub refused : EndsForLinking before.shelves.faults since store opened (stop.BadStored fault)

abbrev pub HasCause : (before now : Outside) → ScriptEnd → Type 0
HasCause before now Done = IsQuiet before now
HasCause before now (BadLine number why) = IsQuiet before now
HasCause before now ReadFault = ReadFailed before.source before.sink now.source now.sink
HasCause before now WriteFault = Rose before.sink.faults now.sink.faults
HasCause before now (KeeperFault note) = IsQuiet before now × (Rose note.before note.after × Rose before.shelves.faults now.shelves.faults)
HasCause before now (StoreFault note) = IsQuiet before now × IsNoted before.store now.store note
HasCause before now (BadStored fault) = IsQuiet before now × IsRefusedBy before now fault
HasCause before now NoMemory = IsQuiet before now

-- ---- what a desk tells

-- before a script: shelves and a store tell the documents and the objects of a world in which no document is open, no name is given and
-- no line was read. Each object is held under its own id, and has fewer than 2^53 bytes
pub record IsDeskOf (shelves : Shelving) (store : Storing) (w : World) : Type 0 where
  pub told : ShelvesTell shelves w
  pub held : StoreStands store w
  pub short : IsShort w.store
  pub owned : HoldsOwn w.store
  pub first : w ≡ first_world w.documents w.store

-- behind one: they tell those of this world, so that a script may begin on them
abbrev pub ComesBackAs : Outside → World → Type 0
ComesBackAs now w = IsDeskOf now.shelves now.store (first_world w.documents w.store)

-- ---- what is written

-- the last line is that of a container that was loaded at the end
pub record IsWholeWith (limits : Limits) (w : World) (document : List ℕ) (input output : List ℕ) : Type 0 where
  pub accepted : Accepts (means false limits w) [] (lines input)
  pub text : output ≡ last_line limits w document (lines input)

-- a beginning of it
pub record IsCutWith (limits : Limits) (w : World) (document : List ℕ) (input output : List ℕ) : Type 0 where
  pub rest : List ℕ
  pub goes_on : IsWholeWith limits w document input (output ++ rest)

-- all lines of the input came before
abbrev pub AreAll : (input : Option (List ℕ)) → (before : List (List ℕ)) → Type 0
AreAll input before = Tells input (λ bytes. lines bytes ≡ before)

-- all steps were done, and nothing of the input is left
pub record DidAll (limits : Limits) (w : World) (before now : Outside) : Type 0 where
  pub written : Wrote (IsWhole (means true limits w)) before.source.left before.sink.written now.sink.written
  pub nothing_left : Tells now.source.left (λ bytes. bytes ≡ [])
  pub lines : List (List ℕ)
  pub are_all : AreAll before.source.left lines
  pub back : ComesBackAs now (behind limits w lines)

-- and the last container was loaded and shown
pub record DidAllWith (limits : Limits) (w : World) (document : List ℕ) (before now : Outside) : Type 0 where
  pub written : Wrote (IsWholeWith limits w document) before.source.left before.sink.written now.sink.written
  pub nothing_left : Tells now.source.left (λ bytes. bytes ≡ [])
  pub lines : List (List ℕ)
  pub are_all : AreAll before.source.left lines
  pub back : ComesBackAs now (loaded_last limits (behind limits w lines) document).world

abbrev pub DoesAll : Limits → World → (load : Option (List ℕ)) → Outside → Outside → Type 0
DoesAll limits w None before now = DidAll limits w before now
DoesAll limits w (Some document) before now = DidAllWith limits w document before now

-- these lines came first
abbrev pub AreFirst : (input : Option (List ℕ)) → (before : List (List ℕ)) → Type 0
AreFirst input before = Tells input (λ bytes. (more : List (List ℕ)) × (lines bytes ≡ before ++ more))

-- the lines before the refused one, and then the line of its fault; the desk tells the world behind them
pub record DidRefuse (speaks : Bool) (limits : Limits) (w : World) (number : ℕ) (why : LineWhy) (before now : Outside) : Type 0 where
  pub refusal : Refusal LineWhy
  pub is : why ≡ why_of refusal
  pub written : Wrote (IsRefusedFor (means speaks limits w) number refusal) before.source.left before.sink.written now.sink.written
  pub lines : List (List ℕ)
  pub its_number : number ≡ length lines + 1
  pub are_first : AreFirst before.source.left lines
  pub back : ComesBackAs now (behind limits w lines)

abbrev pub WasCut : Limits → World → (load : Option (List ℕ)) → Outside → Outside → Type 0
WasCut limits w None before now = Wrote (IsCut (means true limits w)) before.source.left before.sink.written now.sink.written
WasCut limits w (Some document) before now =
    Wrote (λ input output. IsCut (means false limits w) input output ⊎ IsCutWith limits w document input output) before.source.left before.sink.written now.sink.written

-- whole steps were written
abbrev pub WasBegun : (speaks : Bool) → Limits → World → Outside → Outside → Type 0
WasBegun speaks limits w before now = Wrote (IsBegun (means speaks limits w)) before.source.left before.sink.written now.sink.written

-- the same behind the last container, where one is loaded
abbrev pub IsLongAtLast : Limits → World → (load : Option (List ℕ)) → Type 0
IsLongAtLast limits w None = ⊥
IsLongAtLast limits w (Some document) = IsLong (loaded_last limits w document).world

-- a document is long behind some first lines of the input
pub record GrowsLong (limits : Limits) (w : World) (load input : Option (List ℕ)) : Type 0 where
  pub lines : List (List ℕ)
  pub are_first : AreFirst input lines
  pub long : IsLong (behind limits w lines) ⊎ IsLongAtLast limits (behind limits w lines) load

abbrev pub Writes : Limits → World → (load : Option (List ℕ)) → Outside → Outside → ScriptEnd → Type 0
Writes limits w load before now Done = DoesAll limits w load before now
Writes limits w load before now (BadLine number why) = DidRefuse (is_none load) limits w number why before now
Writes limits w load before now ReadFault = Wrote (IsInterrupted (means (is_none load) limits w) now.source.left) before.source.left before.sink.written now.sink.written
Writes limits w load before now WriteFault = WasCut limits w load before now
Writes limits w load before now (KeeperFault note) = WasBegun (is_none load) limits w before now
Writes limits w load before now (StoreFault note) = WasBegun (is_none load) limits w before now
Writes limits w load before now (BadStored fault) = (fault ≡ Lane Worn) × (GrowsLong limits w load before.source.left × WasBegun (is_none load) limits w before now)
Writes limits w load before now NoMemory = WasBegun (is_none load) limits w before now

-- ---- the same, while the documents are open

-- the last of so many steps ended it
pub record StopsSo (first : ℕ) (before : Storing) (input : Reading) (start : Writing) (source : Reading) (sink : Writing) (s : Scripting) (stop : Stop) : Type 0 where
  pub quiet : NoFault input start source sink
  pub steps : ℕ
  pub stops : StopsForLinking first steps before s.store s.lanes stop

abbrev pub EndsBy : (first : ℕ) → (before : Storing) → Reading → Writing → Reading → Writing → Scripting → ScriptEnd → Type 0
EndsBy first before input start source sink s Done = NoFault input start source sink
EndsBy first before input start source sink s (BadLine number why) = NoFault input start source sink
EndsBy first before input start source sink s ReadFault = ReadFailed input start source sink
EndsBy first before input start source sink s WriteFault = Rose start.faults sink.faults
EndsBy first before input start source sink s (KeeperFault note) = StopsSo first before input start source sink s (stop.KeeperFault note)
EndsBy first before input start source sink s (StoreFault note) = StopsSo first before input start source sink s (stop.StoreFault note)
EndsBy first before input start source sink s (BadStored fault) = StopsSo first before input start source sink s (stop.BadStored fault)
EndsBy first before input start source sink s NoMemory = NoFault input start source sink

-- the open documents and the store stand for a world in which each object is held under its own id
pub record PartsStand (s : Scripting) (w : World) : Type 0 where
  pub desk : DeskStands s.lanes w
  pub held : StoreStands s.store w
  pub owned : HoldsOwn w.store

-- the line of the last container
abbrev pub LastWrites : (line : List ℕ) → (old new : Writing) → ScriptEnd → Type 0
LastWrites line old new Done = (new.faults ≡ old.faults) × Appends (written (line ∷ [])) old.written new.written
LastWrites line old new WriteFault = Rose old.faults new.faults × AppendsPrefix (written (line ∷ [])) old.written new.written
LastWrites line old new NoMemory = new ≡ old
LastWrites line old new end = ⊥

-- it is loaded and shown
abbrev pub ShowsBy : Told → (old new : Writing) → Scripting → ScriptEnd → Type 0
ShowsBy told old new s Done = PartsStand s told.world × Appends (written told.lines) old.written new.written
ShowsBy told old new s WriteFault = AppendsPrefix (written told.lines) old.written new.written
ShowsBy told old new s (KeeperFault note) = new ≡ old
ShowsBy told old new s (StoreFault note) = new ≡ old
ShowsBy told old new s (BadStored fault) = (fault ≡ Lane Worn) × (IsLong told.world × (new ≡ old))
ShowsBy told old new s NoMemory = new ≡ old
ShowsBy told old new s end = ⊥

-- what comes behind all lines
abbrev pub ConcludesBy : Limits → World → (load : Option (List ℕ)) → (old new : Writing) → Scripting → ScriptEnd → Type 0
ConcludesBy limits w None old new s end = (end ≡ Done) × ((new ≡ old) × PartsStand s w)
ConcludesBy limits w (Some document) old new s end = ShowsBy (loaded_last limits w document) old new s end

-- as `Writes`, by what the open documents and the store stand for
pub record DidSo (limits : Limits) (w : World) (input : Reading) (start : Writing) (source : Reading) (sink : Writing) (s : Scripting) : Type 0 where
  pub written : Wrote (IsWhole (means true limits w)) input.left start.written sink.written
  pub nothing_left : Tells source.left (λ bytes. bytes ≡ [])
  pub lines : List (List ℕ)
  pub are_all : AreAll input.left lines
  pub parts : PartsStand s (behind limits w lines)

pub record DidSoWith (limits : Limits) (w : World) (document : List ℕ) (input : Reading) (start : Writing) (source : Reading) (sink : Writing) (s : Scripting) : Type 0 where
  pub written : Wrote (IsWholeWith limits w document) input.left start.written sink.written
  pub nothing_left : Tells source.left (λ bytes. bytes ≡ [])
  pub lines : List (List ℕ)
  pub are_all : AreAll input.left lines
  pub parts : PartsStand s (loaded_last limits (behind limits w lines) document).world

abbrev pub DoesSo : Limits → World → (load : Option (List ℕ)) → Reading → Writing → Reading → Writing → Scripting → Type 0
DoesSo limits w None input start source sink s = DidSo limits w input start source sink s
DoesSo limits w (Some document) input start source sink s = DidSoWith limits w document input start source sink s

pub record RefusedSo (speaks : Bool) (limits : Limits) (w : World) (number : ℕ) (why : LineWhy) (input : Reading) (start : Writing) (sink : Writing) (s : Scripting) : Type 0 where
  pub refusal : Refusal LineWhy
  pub is : why ≡ why_of refusal
  pub written : Wrote (IsRefusedFor (means speaks limits w) number refusal) input.left start.written sink.written
  pub lines : List (List ℕ)
  pub its_number : number ≡ length lines + 1
  pub are_first : AreFirst input.left lines
  pub parts : PartsStand s (behind limits w lines)

abbrev pub CutSo : Limits → World → (load : Option (List ℕ)) → Reading → Writing → Writing → Type 0
CutSo limits w None input start sink = Wrote (IsCut (means true limits w)) input.left start.written sink.written
CutSo limits w (Some document) input start sink =
    Wrote (λ bytes output. IsCut (means false limits w) bytes output ⊎ IsCutWith limits w document bytes output) input.left start.written sink.written

abbrev pub BegunSo : (speaks : Bool) → Limits → World → Reading → Writing → Writing → Type 0
BegunSo speaks limits w input start sink = Wrote (IsBegun (means speaks limits w)) input.left start.written sink.written

abbrev pub WritesSo : Limits → World → (load : Option (List ℕ)) → Reading → Writing → Reading → Writing → Scripting → ScriptEnd → Type 0
WritesSo limits w load input start source sink s Done = DoesSo limits w load input start source sink s
WritesSo limits w load input start source sink s (BadLine number why) = RefusedSo (is_none load) limits w number why input start sink s
WritesSo limits w load input start source sink s ReadFault = Wrote (IsInterrupted (means (is_none load) limits w) source.left) input.left start.written sink.written
WritesSo limits w load input start source sink s WriteFault = CutSo limits w load input start sink
WritesSo limits w load input start source sink s (KeeperFault note) = BegunSo (is_none load) limits w input start sink
WritesSo limits w load input start source sink s (StoreFault note) = BegunSo (is_none load) limits w input start sink
WritesSo limits w load input start source sink s (BadStored fault) = (fault ≡ Lane Worn) × (GrowsLong limits w load input.left × BegunSo (is_none load) limits w input start sink)
WritesSo limits w load input start source sink s NoMemory = BegunSo (is_none load) limits w input start sink
