-- What opening a document is: its keeper is taken from the shelves, and its lane started over it.
use Rattle.std.specs.Prelude.{◌≡◌, ℕ, ◌≤◌, ⊤, ◌⊎◌, List, Result, Ok, Err}
use Rattle.fluid_io.specs.Causes.{Rose}
use Rattle.fluid_log.specs.Keeping.{Keeping}
use Rattle.fluid_log.specs.Shelving.{Shelving, GivesKeeper, PutsBack, StaysPut}
use Rattle.fluid_deltas.specs.Ranges.{IsNoted}
use Rattle.fluid_rules.specs.declared.limits.Limits.{Limits}
use Rattle.fluid_lane.specs.declared.fault.LaneFault.{LaneFault}
use Rattle.fluid_lane.specs.declared.fault.LaneFault.TheVariants as lane
use Rattle.fluid_lane.specs.Standing.{Standing}
use Rattle.fluid_lane.specs.Starting.{Starts, StartsPartly}
use Rattle.fluid_opening.specs.Faults.{of_starting}
use Rattle.fluid_opening.specs.declared.fault.DoorFault.{DoorFault}
use Rattle.fluid_opening.specs.declared.fault.DoorFault.TheVariants.{ShelfFailed, Lane, TooManyDocuments, NoMemory}

-- ---- over a keeper that was given

-- the lane wasn't started: what the start left of the keeper is back under its name
pub record ComesBack (name : List ℕ) (moment : ℕ) (given : Keeping) (old new : Shelving) (fault : LaneFault) : Type 0 where
  pub left : Keeping
  pub partly : StartsPartly given left moment fault
  pub back : PutsBack name old new left

-- the lane was started and the shelves stay, or the keeper comes back. Want of memory is one fault, and never that of a lane
abbrev pub StartDoes : Limits → List ℕ → ℕ → Keeping → Shelving → Shelving → Result Standing DoorFault → Type 0
StartDoes limits name moment given old new (Ok lane) = Starts given limits moment lane × (new ≡ old)
StartDoes limits name moment given old new (Err (Lane fault)) = (of_starting fault ≡ Lane fault) × ComesBack name moment given old new fault
StartDoes limits name moment given old new (Err NoMemory) = ComesBack name moment given old new lane.NoMemory
StartDoes limits name moment given old new (Err fault) = ⊥

-- ---- from the shelves on

-- the keeper was given, and the lane started over it
pub record Opens (limits : Limits) (name : List ℕ) (moment : ℕ) (old new : Shelving) (lane : Standing) : Type 0 where
  pub keeper : Keeping
  pub gives : GivesKeeper name old new keeper
  pub starts : Starts keeper limits moment lane

-- the same, over this keeper
abbrev pub OpensOver : Limits → List ℕ → ℕ → Shelving → Shelving → Keeping → Standing → Type 0
OpensOver limits name moment old new keeper lane = GivesKeeper name old new keeper × Starts keeper limits moment lane

-- the keeper was given and came back, since the lane wasn't started
pub record StartFails (name : List ℕ) (moment : ℕ) (old new : Shelving) (fault : LaneFault) : Type 0 where
  pub keeper : Keeping
  pub between : Shelving
  pub gives : GivesKeeper name old between keeper
  pub comes_back : ComesBack name moment keeper between new fault

-- what opening a document did, by the answer. How many documents are open is no matter of one of them
abbrev pub OpenDoes : Limits → List ℕ → ℕ → Shelving → Shelving → Result Standing DoorFault → Type 0
OpenDoes limits name moment old new (Ok lane) = Opens limits name moment old new lane
OpenDoes limits name moment old new (Err (ShelfFailed note)) = StaysPut old new × IsNoted old.faults new.faults note
OpenDoes limits name moment old new (Err (Lane fault)) = (of_starting fault ≡ Lane fault) × StartFails name moment old new fault
OpenDoes limits name moment old new (Err (TooManyDocuments count)) = ⊥
OpenDoes limits name moment old new (Err NoMemory) = StaysPut old new ⊎ StartFails name moment old new lane.NoMemory

-- ---- causes

-- no start has another fault; where the keeper failed, the count of the shelves to which it came back rose too, to at least what the note
-- tells
abbrev pub IsRisenFor : (before now : ℕ) → LaneFault → Type 0
IsRisenFor before now (lane.LogFailed note) = Rose before now × (note.after ≤ now)
IsRisenFor before now (lane.DeltaFailed note) = Rose before now × (note.after ≤ now)
IsRisenFor before now (lane.BadRecord place) = ⊤
IsRisenFor before now (lane.BadCheckpoint number bad) = ⊤
IsRisenFor before now lane.Worn = ⊤
IsRisenFor before now fault = ⊥

-- a fault of the shelves or of a keeper comes only where the shelves' count rose
abbrev pub IsRisen : (before now : ℕ) → DoorFault → Type 0
IsRisen before now (ShelfFailed note) = IsNoted before now note
IsRisen before now (Lane fault) = IsRisenFor before now fault
IsRisen before now fault = ⊤
