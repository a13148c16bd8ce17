-- Why a step of a connection ends the script, on every desk.
use Rattle.std.specs.Prelude.{◌≡◌, ℕ, ◌+◌, ◌≤◌, ⊤, List, Some, Result, Ok, Err}
use Rattle.std.specs.FinMap.{get}
use Rattle.fluid_types.specs.declared.fault.Field.{Field}
use Rattle.fluid_store.specs.Keeping.{IsNoted}
use Rattle.fluid_deltas.specs.declared.fault.DeltaFault.{DeltaFault}
use Rattle.fluid_deltas.specs.declared.fault.DeltaFault.TheVariants as delta
use Rattle.fluid_store.specs.Storing.{Storing}
use Rattle.fluid_lane.specs.declared.fault.LaneFault.TheVariants.{Worn}
use Rattle.fluid_lane.specs.declared.steps.Step.{Step}
use Rattle.fluid_lane.specs.Standing.{Standing, Goes}
use Rattle.fluid_lanes.specs.Opened.{Opened}
use Rattle.fluid_acts.specs.AtLane.{IsBadDelta}
use Rattle.fluid_desk.specs.declared.stop.Stop.{Stop}
use Rattle.fluid_desk.specs.declared.stop.Stop.TheVariants.{KeeperFault, StoreFault as StoreFailed, BadStored, NoMemory}
use Rattle.fluid_desk.specs.declared.stop.StoredFault.TheVariants.{Lane, Delta}
use Rattle.fluid_desk.specs.Stopping.{LaneEnds, AreFew, HasRun, EndsFor}
use Rattle.fluid_desk.specs.Scribing.{EndsWith}

-- a fault of the messages that were asked for
abbrev pub delta_stop : DeltaFault → Stop
delta_stop (delta.DeltaFailed note) = KeeperFault note
delta_stop (delta.BadDelta number) = BadStored (Delta number)
delta_stop delta.Worn = BadStored (Lane Worn)
delta_stop delta.NoMemory = NoMemory

-- ---- on a lane

-- the text of the message of this number doesn't decode: it is the first such among those that were asked of the lane, which goes on
-- from there
pub record RefusesMessage (now : Standing) (number : ℕ) : Type 0 where
  pub before : Standing
  pub added : List Step
  pub goes : Goes before now added
  pub range : Result (ℕ × ℕ) Field
  pub bad : IsBadDelta range before number

abbrev pub EndsReading : (old new : Standing) → Stop → Type 0
EndsReading old new (BadStored (Delta number)) = RefusesMessage new number
EndsReading old new stop = LaneEnds old new stop

abbrev pub EndsReadingBy : {A : Type 0} → (old new : Standing) → Result A Stop → Type 0
EndsReadingBy old new (Ok a) = ⊤
EndsReadingBy old new (Err stop) = EndsReading old new stop

-- a side step is added only by a call that ends it, and no more than one
abbrev pub AddsAside : {A : Type 0} → (old new : Standing) → Result A Stop → Type 0
AddsAside old new (Ok a) = new.sides ≤ old.sides
AddsAside old new (Err stop) = new.sides ≤ old.sides + 1

-- a call on a lane that reads messages
pub record LaneReads {A : Type 0} (old new : Standing) (result : Result A Stop) : Type 0 where
  pub later : old.keeping.faults ≤ new.keeping.faults
  pub sides : AddsAside old new result
  pub ends : EndsReadingBy old new result

-- with a store of objects
abbrev pub EndsHearing : (old new : Standing) → (before now : Storing) → Stop → Type 0
EndsHearing old new before now (BadStored (Delta number)) = RefusesMessage new number
EndsHearing old new before now stop = EndsWith old new before now stop

abbrev pub EndsHearingBy : {A : Type 0} → (old new : Standing) → (before now : Storing) → Result A Stop → Type 0
EndsHearingBy old new before now (Ok a) = ⊤
EndsHearingBy old new before now (Err stop) = EndsHearing old new before now stop

pub record LaneHears {A : Type 0} (old new : Standing) (before now : Storing) (result : Result A Stop) : Type 0 where
  pub later : old.keeping.faults ≤ new.keeping.faults
  pub sides : AddsAside old new result
  pub counts : before.faults ≤ now.faults
  pub ends : EndsHearingBy old new before now result

-- ---- on all of a desk

-- the text of a message of an open document doesn't decode
pub record MessageRefuses (o : Opened) (number : ℕ) : Type 0 where
  pub name : List ℕ
  pub lane : Standing
  pub there : get o.lanes name ≡ Some lane
  pub refuses : RefusesMessage lane number

abbrev pub EndsForReading : (first : ℕ) → Opened → Stop → Type 0
EndsForReading first o (BadStored (Delta number)) = MessageRefuses o number
EndsForReading first o stop = EndsFor first o stop

pub record StopsForReading (first steps : ℕ) (o : Opened) (stop : Stop) : Type 0 where
  pub shelves : first ≤ o.shelving.faults
  pub few : AreFew steps o
  pub ends : EndsForReading first o stop

-- a step that reads messages, the last of so many in a run whose shelves had counted so many faults when it began
abbrev pub RunsReading : {A : Type 0} → (first steps : ℕ) → Opened → Result A Stop → Type 0
RunsReading first steps o (Ok a) = HasRun first steps o
RunsReading first steps o (Err stop) = StopsForReading first steps o stop

abbrev pub EndsForHearing : (first : ℕ) → (before now : Storing) → Opened → Stop → Type 0
EndsForHearing first before now o (StoreFailed note) = IsNoted before now note
EndsForHearing first before now o stop = EndsForReading first o stop

pub record StopsForHearing (first steps : ℕ) (before now : Storing) (o : Opened) (stop : Stop) : Type 0 where
  pub shelves : first ≤ o.shelving.faults
  pub few : AreFew steps o
  pub ends : EndsForHearing first before now o stop

-- one that uses the store as well
abbrev pub RunsHearing : {A : Type 0} → (first steps : ℕ) → (before now : Storing) → Opened → Result A Stop → Type 0
RunsHearing first steps before now o (Ok a) = HasRun first steps o
RunsHearing first steps before now o (Err stop) = StopsForHearing first steps before now o stop
