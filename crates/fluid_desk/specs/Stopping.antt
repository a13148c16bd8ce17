-- Why a script ends in a step, and what is known of every desk meanwhile, whatever it tells.
use Rattle.std.specs.Prelude.{◌≡◌, ◌⊎◌, ℕ, ◌+◌, ◌≤◌, ⊤, true, List, length, Some, Result, Ok, Err}
use Rattle.std.specs.FinMap.{get}
use Rattle.std.specs.Option.{option_map_or}
use Rattle.fluid_io.specs.Causes.{Rose}
use Rattle.fluid_deltas.specs.Ranges.{IsNoted}
use Rattle.fluid_types.specs.Forms.{largest}
use Rattle.fluid_lane.specs.declared.fault.LaneFault.{LaneFault}
use Rattle.fluid_lane.specs.declared.fault.LaneFault.TheVariants as lane
use Rattle.fluid_lane.specs.Standing.{Standing, is_worn}
use Rattle.fluid_opening.specs.declared.fault.DoorFault.{DoorFault}
use Rattle.fluid_opening.specs.declared.fault.DoorFault.TheVariants as door
use Rattle.fluid_lanes.specs.Opened.{Opened}
use Rattle.fluid_lanes.specs.Using.{FailsToOpen}
use Rattle.fluid_lanes.specs.Closing.{HasFailed}
use Rattle.fluid_transcript.specs.World.{Document, World, document}
use Rattle.fluid_desk.specs.declared.stop.Stop.{Stop}
use Rattle.fluid_desk.specs.declared.stop.Stop.TheVariants.{KeeperFault, BadStored, NoMemory}
use Rattle.fluid_desk.specs.declared.stop.StoredFault.TheVariants.{Lane}

-- ---- ends of a step

-- a fault of a lane that a step doesn't write: the keeper failed, memory was wanting, or what is stored is refused
abbrev pub stop_of : LaneFault → Stop
stop_of (lane.LogFailed note) = KeeperFault note
stop_of (lane.DeltaFailed note) = KeeperFault note
stop_of lane.NoMemory = NoMemory
stop_of fault = BadStored (Lane fault)

-- a document wasn't opened: as many as may be are open, which a step writes, or a fault
abbrev pub turned_by : DoorFault → Result (Unit {0}) Stop
turned_by (door.TooManyDocuments count) = Ok tt
turned_by (door.ShelfFailed note) = Err (KeeperFault note)
turned_by (door.Lane fault) = Err (stop_of fault)
turned_by door.NoMemory = Err NoMemory

-- over a desk that stands for a world nothing that is stored is refused, but that a document with so many entries and side steps, or
-- one entry more, has come to the end of all numbers
abbrev pub IsHonest : (steps : ℕ) → Stop → Type 0
IsHonest steps (BadStored (Lane lane.Worn)) = largest ≤ steps + 1
IsHonest steps (BadStored fault) = ⊥
IsHonest steps other = ⊤

-- the entries of a document, and the side steps of its lane
abbrev pub steps_on : Document → Standing → ℕ
steps_on d s = length d.raws + s.sides

-- the same of a document of a world, whose lane has side steps where it is open
abbrev pub steps_in : World → Opened → (name : List ℕ) → ℕ
steps_in w o name = length (document w name).raws + option_map_or (λ (s : Standing). s.sides) (get o.lanes name) 0

-- so a step may end, which would leave this world
abbrev pub MayStop : World → Opened → Stop → Type 0
MayStop w o stop = (name : List ℕ) × IsHonest (steps_in w o name) stop

-- ---- on a lane

-- a lane refuses: it has come to the end of its numbers, or what was read of its keeper is bad
abbrev pub RefusesFor : Standing → LaneFault → Type 0
RefusesFor s lane.Worn = is_worn s ≡ true
RefusesFor s (lane.BadRecord place) = ⊤
RefusesFor s (lane.BadCheckpoint number fault) = ⊤
RefusesFor s other = ⊥

-- why a call on a lane ends the script: the counts of its keeper tell of a fault, and a worn lane stays as it was
abbrev pub LaneEnds : (old new : Standing) → Stop → Type 0
LaneEnds old new (KeeperFault note) = IsNoted old.keeping.faults new.keeping.faults note
LaneEnds old new (BadStored (Lane fault)) = RefusesFor new fault
LaneEnds old new NoMemory = ⊤
LaneEnds old new other = ⊥

-- a call on a lane: its keeper's count doesn't fall, it adds a side step at most, and an end has its cause
abbrev pub LaneEndsBy : {A : Type 0} → (old new : Standing) → Result A Stop → Type 0
LaneEndsBy old new (Ok a) = ⊤
LaneEndsBy old new (Err stop) = LaneEnds old new stop

pub record LaneRuns {A : Type 0} (old new : Standing) (result : Result A Stop) : Type 0 where
  pub later : old.keeping.faults ≤ new.keeping.faults
  pub sides : new.sides ≤ old.sides + 1
  pub ends : LaneEndsBy old new result

-- ---- on all of a desk

-- no open document has more side steps than so many
abbrev pub AreFew : ℕ → Opened → Type 0
AreFew n o = (name : List ℕ) (lane : Standing) → get o.lanes name ≡ Some lane → lane.sides ≤ n

-- in a run of so many steps that began when the shelves had counted so many faults no count fell, neither theirs nor that of a keeper since
-- it was given, and no document has more side steps
pub record HasRun (before steps : ℕ) (o : Opened) : Type 0 where
  pub shelves : before ≤ o.shelving.faults
  pub lanes :
      (name : List ℕ) (lane : Standing) (given : ℕ) → get o.lanes name ≡ Some lane → get o.shelving.out name ≡ Some given
      → given ≤ lane.keeping.faults
  pub few : AreFew steps o

-- the shelves' count rose, or that of a keeper that is out, of which the shelves' count will tell
abbrev pub HasRisen : ℕ → Opened → Type 0
HasRisen before o = Rose before o.shelving.faults ⊎ ((name : List ℕ) × HasFailed o.lanes o.shelving name)

-- the lane of an open document refuses, or a document wasn't opened for it
pub record LaneRefuses (o : Opened) (fault : LaneFault) : Type 0 where
  pub name : List ℕ
  pub lane : Standing
  pub there : get o.lanes name ≡ Some lane
  pub refuses : RefusesFor lane fault

pub record OpeningRefuses (o : Opened) (fault : LaneFault) : Type 0 where
  pub before : Opened
  pub name : List ℕ
  pub moment : ℕ
  pub fails : FailsToOpen name moment before o (door.Lane fault)

-- why a step ends the script
abbrev pub EndsFor : ℕ → Opened → Stop → Type 0
EndsFor before o (KeeperFault note) = Rose note.before note.after × HasRisen before o
EndsFor before o (BadStored (Lane fault)) = LaneRefuses o fault ⊎ OpeningRefuses o fault
EndsFor before o NoMemory = ⊤
EndsFor before o other = ⊥

pub record StopsFor (before steps : ℕ) (o : Opened) (stop : Stop) : Type 0 where
  pub shelves : before ≤ o.shelving.faults
  pub few : AreFew steps o
  pub ends : EndsFor before o stop

-- the last of so many steps in a run
abbrev pub RunsOn : {A : Type 0} → (before steps : ℕ) → Opened → Result A Stop → Type 0
RunsOn before steps o (Ok a) = HasRun before steps o
RunsOn before steps o (Err stop) = StopsFor before steps o stop
