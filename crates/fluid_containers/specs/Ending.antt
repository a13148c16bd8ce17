-- Why a step of a container ends the script, on every desk: as any step that reads messages and uses the store, or a summary tree is
-- refused by what the store holds.
use Rattle.std.specs.Prelude.{ℕ, ◌≤◌, Result, Ok, Err}
use Rattle.fluid_store.specs.Storing.{Storing}
use Rattle.fluid_store.specs.declared.fault.StoreFault.{StoreFault}
use Rattle.fluid_store.specs.declared.fault.StoreFault.TheVariants as store
use Rattle.fluid_lanes.specs.Opened.{Opened}
use Rattle.fluid_desk.specs.declared.stop.Stop.{Stop}
use Rattle.fluid_desk.specs.declared.stop.Stop.TheVariants.{StoreFault as StoreFailed, BadStored, NoMemory}
use Rattle.fluid_desk.specs.declared.stop.StoredFault.TheVariants.{Object}
use Rattle.fluid_desk.specs.Stopping.{stop_of, AreFew, HasRun}
use Rattle.fluid_callers.specs.Ending.{delta_stop, EndsForHearing}
use Rattle.fluid_door_link.specs.declared.fault.LentFault.{LentFault}
use Rattle.fluid_door_link.specs.declared.fault.LentFault.TheVariants.{Lane, Deltas, Store}
use Rattle.fluid_door_link.specs.Failing.{RefusesTree}

-- the fault of the store
abbrev pub store_stop : StoreFault → Stop
store_stop (store.StoreFailed note) = StoreFailed note
store_stop store.NoMemory = NoMemory
store_stop other = BadStored (Object other)

-- what ended a call on a lane and a store that were lent, as the end of a script
abbrev pub stop_for : LentFault → Stop
stop_for (Lane fault) = stop_of fault
stop_for (Deltas fault) = delta_stop fault
stop_for (Store fault) = store_stop fault

abbrev pub EndsForLinking : (first : ℕ) → (before now : Storing) → Opened → Stop → Type 0
EndsForLinking first before now o (BadStored (Object fault)) = RefusesTree now fault
EndsForLinking first before now o stop = EndsForHearing first before now o stop

pub record StopsForLinking (first steps : ℕ) (before now : Storing) (o : Opened) (stop : Stop) : Type 0 where
  pub shelves : first ≤ o.shelving.faults
  pub few : AreFew steps o
  pub ends : EndsForLinking first before now o stop

-- a step of a container, the last of so many in a run whose shelves had counted so many faults when it began
abbrev pub RunsLinking : {A : Type 0} → (first steps : ℕ) → (before now : Storing) → Opened → Result A Stop → Type 0
RunsLinking first steps before now o (Ok a) = HasRun first steps o
RunsLinking first steps before now o (Err stop) = StopsForLinking first steps before now o stop
