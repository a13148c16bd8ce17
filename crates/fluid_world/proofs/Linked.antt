-- Why a step ends a script: each sort of end is one of a step of a container.
use Rattle.std.proofs.Common.{◌≡◌, ℕ, List, Result, Ok, Err, sym, subst}
use Rattle.fluid_store.specs.Storing.{Storing}
use Rattle.fluid_lanes.specs.Opened.{Opened}
use Rattle.fluid_desk.specs.declared.stop.Stop.{Stop}
use Rattle.fluid_desk.specs.declared.stop.Stop.TheVariants.{KeeperFault, StoreFault, BadStored, NoMemory}
use Rattle.fluid_desk.specs.declared.stop.StoredFault.TheVariants.{Lane, Delta, Object}
use Rattle.fluid_desk.specs.Stopping.{HasRun, EndsFor, RunsOn}
use Rattle.fluid_desk.specs.Scribing.{EndsForWith, RunsWith}
use Rattle.fluid_callers.specs.Ending.{EndsForReading, StopsForReading, RunsReading, EndsForHearing, RunsHearing}
use Rattle.fluid_containers.specs.Ending.{EndsForLinking, StopsForLinking, RunsLinking}
use Rattle.fluid_world.specs.Standing.{IsWrittenOf}

module _ (first steps : ℕ) (before now : Storing) (o : Opened) where
  ends_on : (stop : Stop) → EndsFor first o stop → EndsForLinking first before now o stop
  ends_on (KeeperFault note) h = h
  ends_on (StoreFault note) h = absurd h
  ends_on (BadStored (Lane fault)) h = h
  ends_on (BadStored (Delta number)) h = absurd h
  ends_on (BadStored (Object fault)) h = absurd h
  ends_on NoMemory h = tt

  ends_with : (stop : Stop) → EndsForWith first before now o stop → EndsForLinking first before now o stop
  ends_with (KeeperFault note) h = h
  ends_with (StoreFault note) h = h
  ends_with (BadStored (Lane fault)) h = h
  ends_with (BadStored (Delta number)) h = absurd h
  ends_with (BadStored (Object fault)) h = absurd h
  ends_with NoMemory h = tt

  ends_reading : (stop : Stop) → EndsForReading first o stop → EndsForLinking first before now o stop
  ends_reading (KeeperFault note) h = h
  ends_reading (StoreFault note) h = absurd h
  ends_reading (BadStored (Lane fault)) h = h
  ends_reading (BadStored (Delta number)) h = h
  ends_reading (BadStored (Object fault)) h = absurd h
  ends_reading NoMemory h = tt

  ends_hearing : (stop : Stop) → EndsForHearing first before now o stop → EndsForLinking first before now o stop
  ends_hearing (KeeperFault note) h = h
  ends_hearing (StoreFault note) h = h
  ends_hearing (BadStored (Lane fault)) h = h
  ends_hearing (BadStored (Delta number)) h = h
  ends_hearing (BadStored (Object fault)) h = absurd h
  ends_hearing NoMemory h = tt

  pub on_links : {A : Type 0} (r : Result A Stop) → RunsOn first steps o r → RunsLinking first steps before now o r
  on_links (Ok a) h = h
  on_links (Err stop) h = record { shelves = h.shelves; few = h.few; ends = ends_on stop h.ends }

  pub with_links : {A : Type 0} (r : Result A Stop) → RunsWith first steps before o now r → RunsLinking first steps before now o r
  with_links (Ok a) h = h
  with_links (Err stop) h = record { shelves = h.shelves; few = h.few; ends = ends_with stop h.ends }

  pub reading_links : {A : Type 0} (r : Result A Stop) → RunsReading first steps o r → RunsLinking first steps before now o r
  reading_links (Ok a) h = h
  reading_links (Err stop) h = record { shelves = h.shelves; few = h.few; ends = ends_reading stop h.ends }

  pub reading_stops : (stop : Stop) → StopsForReading first steps o stop → StopsForLinking first steps before now o stop
  reading_stops stop h = record { shelves = h.shelves; few = h.few; ends = ends_reading stop h.ends }

  pub hearing_links : {A : Type 0} (r : Result A Stop) → RunsHearing first steps before now o r → RunsLinking first steps before now o r
  hearing_links (Ok a) h = h
  hearing_links (Err stop) h = record { shelves = h.shelves; few = h.few; ends = ends_hearing stop h.ends }

  -- want of memory behind a step
  pub wanting_links : HasRun first steps o → (stop : Stop) → stop ≡ NoMemory → StopsForLinking first steps before now o stop
  wanting_links run stop is = subst (StopsForLinking first steps before now o) (sym is) (record { shelves = run.shelves; few = run.few; ends = tt })

  pub one_links : (line result : Result (List ℕ) Stop) → RunsLinking first steps before now o line → IsWrittenOf line result → RunsLinking first steps before now o result
  one_links (Ok line) (Ok bytes) h is = h
  one_links (Ok line) (Err stop) h is = wanting_links h stop is
  one_links (Err stop) (Ok bytes) h is = absurd is
  one_links (Err stop) (Err same) h is = subst (StopsForLinking first steps before now o) (sym is) h
