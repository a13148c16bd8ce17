-- Why acts of a connection end the script, on every lane and every desk.
use Rattle.std.proofs.Common.{◌≡◌, ℕ, ◌+◌, ◌≤◌, arith, true, List, [], ◌∷◌, ◌++◌, Some, Result, Ok, Err, sym, ap, subst, ◌∙◌}
use Rattle.std.specs.Prelude.{IsSome, nat_le, MatchResult, IfErr}
use Rattle.std.specs.FinMap.{get}
use Rattle.fluid_table.proofs.Places.{get_own}
use Rattle.fluid_types.specs.declared.fault.Field.{Field}
use Rattle.fluid_types.specs.Forms.{largest}
use Rattle.fluid_io.specs.declared.faults.FaultNote.{FaultNote}
use Rattle.fluid_deltas.specs.Ranges as ranges
use Rattle.fluid_deltas.specs.declared.fault.DeltaFault.{DeltaFault}
use Rattle.fluid_deltas.specs.declared.fault.DeltaFault.TheVariants as delta
use Rattle.fluid_store.specs.Storing.{Storing}
use Rattle.fluid_store.specs.Keeping as keeping
use Rattle.fluid_store.specs.declared.fault.StoreFault.{StoreFault}
use Rattle.fluid_store.specs.declared.fault.StoreFault.TheVariants as store
use Rattle.fluid_lane.specs.declared.fault.LaneFault.{LaneFault}
use Rattle.fluid_lane.specs.declared.fault.LaneFault.TheVariants as lane
use Rattle.fluid_lane.specs.declared.steps.Step.{Step}
use Rattle.fluid_lane.specs.Steps.{asides, delta_steps}
use Rattle.fluid_lane.specs.Standing.{Standing, Goes, is_worn}
use Rattle.fluid_lanes.specs.Opened.{Opened, with_lane}
use Rattle.fluid_voice.specs.declared.actions.Act.{Act}
use Rattle.fluid_voice.specs.declared.actions.Act.TheVariants as act
use Rattle.fluid_voice.specs.declared.ends.ActEnd.{ActEnd}
use Rattle.fluid_voice.specs.declared.ends.ActEnd.TheVariants as end
use Rattle.fluid_voice.specs.Ends.{range_asked}
use Rattle.fluid_ends.specs.declared.fault.TalkFault.{TalkFault}
use Rattle.fluid_ends.specs.declared.fault.TalkFault.TheVariants as talk
use Rattle.fluid_ends.specs.Adding.{AddsBy}
use Rattle.fluid_acts.specs.AtLane.{OnLane, IsLaneCause, IsBadDelta, IsBadFor, IsDeltaCause}
use Rattle.fluid_acts.specs.AtStore.{OnStore}
use Rattle.fluid_acts.specs.Doing.{IsTalkCause}
use Rattle.fluid_transcript.specs.Lines.{clash_line}
use Rattle.fluid_transcript.specs.Transcript.{written}
use Rattle.fluid_desk.specs.declared.stop.Stop.{Stop}
use Rattle.fluid_desk.specs.declared.stop.Stop.TheVariants.{KeeperFault, StoreFault as StoreFailed, BadStored, NoMemory}
use Rattle.fluid_desk.specs.declared.stop.StoredFault.TheVariants.{Lane, Delta, Object}
use Rattle.fluid_desk.specs.Stopping.{stop_of, HasRun, EndsFor, StopsFor}
use Rattle.fluid_desk.proofs.Few.{fault_few, one_aside, few_more, lane_few}
use Rattle.fluid_desk.proofs.Running.{lane_run, lane_ends, run_more}
use Rattle.fluid_callers.specs.Ending.{delta_stop, RefusesMessage, EndsReading, EndsReadingBy, AddsAside, LaneReads, EndsHearing, EndsHearingBy, LaneHears, MessageRefuses, EndsForReading, StopsForReading, RunsReading, EndsForHearing, StopsForHearing, RunsHearing}
use Rattle.fluid_callers.specs.Hearing.{IsUnheard, IsUnstored}

-- a lane that goes on with no steps is as worn as it was
pub still_worn : (old new : Standing) (added : List Step) → Goes old new added → added ≡ [] → is_worn old ≡ true → is_worn new ≡ true
still_worn old new added goes none worn =
    let steps = subst (Goes old new) none goes in
    let same : new.entries.entered + new.sides ≡ old.entries.entered + old.sides = omega (arith, steps.entered, steps.sides) in
    ap (nat_le largest) same ∙ worn

-- a range that wasn't given
pub delta_few : (fault : DeltaFault) → asides (delta_steps fault) ≤ 1
delta_few (delta.DeltaFailed note) = omega arith
delta_few (delta.BadDelta number) = omega arith
delta_few delta.Worn = omega arith
delta_few delta.NoMemory = omega arith

pub delta_aside : (old new : ℕ) (fault : DeltaFault) → new ≡ old + asides (delta_steps fault) → new ≤ old + 1
delta_aside old new fault is = omega (arith, delta_few fault, is)

-- none at an end
no_step : (added : List Step) → added ≡ [] → asides added ≡ 0
no_step added none = ap asides none

pub ended_aside : (b : Act) (e : ActEnd) (added : List Step) → AddsBy b e added → asides added ≡ 0
ended_aside (act.Say reply) e added adds = no_step added adds
ended_aside (act.Connect name write scopes detail moment) (end.Joined id number) added adds = ap asides adds.is
ended_aside (act.Connect name write scopes detail moment) (end.Entered v) added adds = no_step added adds
ended_aside (act.Connect name write scopes detail moment) end.Said added adds = no_step added adds
ended_aside (act.Connect name write scopes detail moment) (end.Told last) added adds = no_step added adds
ended_aside (act.Connect name write scopes detail moment) end.FullNow added adds = no_step added adds
ended_aside (act.Connect name write scopes detail moment) end.TooMany added adds = no_step added adds
ended_aside (act.Connect name write scopes detail moment) (end.Given reply) added adds = no_step added adds
ended_aside (act.Enter raw) (end.Joined id number) added adds = no_step added adds
ended_aside (act.Enter raw) (end.Entered v) added adds = ap asides adds
ended_aside (act.Enter raw) end.Said added adds = no_step added adds
ended_aside (act.Enter raw) (end.Told last) added adds = no_step added adds
ended_aside (act.Enter raw) end.FullNow added adds = no_step added adds
ended_aside (act.Enter raw) end.TooMany added adds = no_step added adds
ended_aside (act.Enter raw) (end.Given reply) added adds = no_step added adds
ended_aside (act.Deltas from to) e added adds = no_step added adds
ended_aside (act.Summary asked) e added adds = no_step added adds
ended_aside (act.GetObject id) e added adds = no_step added adds
ended_aside (act.PutObject bytes) e added adds = no_step added adds

-- ---- an act that failed

module _ (a : Act) (old new : Standing) (before now : Storing) where
  lane_ends_so : (fault : LaneFault) → OnLane a old new (Err (talk.Lane fault)) → IsLaneCause old new fault → EndsHearing old new before now (stop_of fault)
  lane_ends_so (lane.LogFailed note) on cause = cause
  lane_ends_so (lane.DeltaFailed note) on cause = cause
  lane_ends_so lane.Worn on cause = still_worn old new on.added on.goes on.adds cause
  lane_ends_so lane.NoMemory on cause = tt
  lane_ends_so (lane.Full n) on cause = absurd cause
  lane_ends_so lane.TooManyClients on cause = absurd cause
  lane_ends_so (lane.BadRecord n) on cause = absurd cause
  lane_ends_so (lane.NoCheckpoint k n) on cause = absurd cause
  lane_ends_so lane.CheckpointsFull on cause = absurd cause
  lane_ends_so (lane.BadCheckpoint n f) on cause = absurd cause
  lane_ends_so (lane.TooLarge n) on cause = absurd cause

  bad_delta : (b : Act) (number : ℕ) → IsBadFor b old number → (range : Result (ℕ × ℕ) Field) × IsBadDelta range old number
  bad_delta (act.Deltas from to) number bad = (range_asked old.entries.state.sequencer.sequence from to, bad)
  bad_delta (act.Say reply) number bad = absurd bad
  bad_delta (act.Connect name write scopes detail moment) number bad = absurd bad
  bad_delta (act.Enter raw) number bad = absurd bad
  bad_delta (act.Summary asked) number bad = absurd bad
  bad_delta (act.GetObject id) number bad = absurd bad
  bad_delta (act.PutObject bytes) number bad = absurd bad

  delta_ends_so : (fault : DeltaFault) → OnLane a old new (Err (talk.Delta fault)) → IsDeltaCause a old new fault → EndsHearing old new before now (delta_stop fault)
  delta_ends_so (delta.DeltaFailed note) on cause = cause
  delta_ends_so (delta.BadDelta number) on cause =
      let bad = bad_delta a number cause in record { before = old; added = on.added; goes = on.goes; range = bad.0; bad = bad.1 }
  delta_ends_so delta.Worn on cause = still_worn old new on.added on.goes on.adds cause
  delta_ends_so delta.NoMemory on cause = absurd cause

  stops_so : (stop : Stop) (result : Result (Unit {0}) Stop) → EndsHearing old new before now stop → result ≡ Err stop → EndsHearingBy old new before now result
  stops_so stop result ends is = subst (EndsHearingBy old new before now) (sym is) ends

  noted : (note : FaultNote) → ranges.IsNoted before.faults now.faults note → keeping.IsNoted before now note
  noted note is = record { before = is.first; after = is.last; rose = is.rose }

  pub line_or_memory : (P : Type 0) (result : Result (Unit {0}) Stop) → MatchResult result (λ done. P) (λ stop. stop ≡ NoMemory) → EndsHearingBy old new before now result
  line_or_memory P (Ok done) is = tt
  line_or_memory P (Err stop) is = subst (EndsHearing old new before now) (sym is) tt

  store_ends_so : (c : List ℕ) (fault : StoreFault) (bytes lines : List ℕ) (result : Result (Unit {0}) Stop) → IsTalkCause a old new before now (talk.Store fault) → IsUnstored c fault bytes lines result → EndsHearingBy old new before now result
  store_ends_so c (store.Clash id kept other) bytes lines result cause is = line_or_memory (lines ≡ bytes ++ written (clash_line c id ∷ [])) result is
  store_ends_so c (store.StoreFailed note) bytes lines result cause is = stops_so (StoreFailed note) result (noted note cause.1) is
  store_ends_so c store.NoMemory bytes lines result cause is = absurd cause.1
  store_ends_so c (store.Missing id) bytes lines result cause is = absurd cause.1
  store_ends_so c (store.BadObject id place) bytes lines result cause is = absurd cause.1
  store_ends_so c (store.Tree fault) bytes lines result cause is = absurd cause.1
  store_ends_so c (store.NoPath path) bytes lines result cause is = absurd cause.1

  unheard_ends : (c : List ℕ) (fault : TalkFault) (bytes lines : List ℕ) (result : Result (Unit {0}) Stop) → OnLane a old new (Err fault) → IsTalkCause a old new before now fault → IsUnheard c fault bytes lines result
      → EndsHearingBy old new before now result
  unheard_ends c (talk.Lane fault) bytes lines result on cause is = stops_so (stop_of fault) result (lane_ends_so fault on cause.1) is
  unheard_ends c (talk.Delta fault) bytes lines result on cause is = stops_so (delta_stop fault) result (delta_ends_so fault on cause.1) is
  unheard_ends c (talk.Store fault) bytes lines result on cause is = store_ends_so c fault bytes lines result cause is
  unheard_ends c (talk.Door fault) bytes lines result on cause is = absurd cause
  unheard_ends c talk.NoMemory bytes lines result on cause is = stops_so NoMemory result tt is

  -- side steps
  aside_so : (stop : Stop) (result : Result (Unit {0}) Stop) → new.sides ≤ old.sides + 1 → result ≡ Err stop → AddsAside old new result
  aside_so stop result le is = subst (AddsAside old new) (sym is) le

  none_aside : (result : Result (Unit {0}) Stop) → new.sides ≤ old.sides → AddsAside old new result
  none_aside (Ok done) le = le
  none_aside (Err stop) le = omega (arith, le)

  stored_aside : (c : List ℕ) (fault : StoreFault) (added : List Step) (bytes lines : List ℕ) (result : Result (Unit {0}) Stop) → Goes old new added → added ≡ [] → IsUnstored c fault bytes lines result → AddsAside old new result
  stored_aside c fault added bytes lines result goes none is = none_aside result (let steps = subst (Goes old new) none goes in omega (arith, steps.sides))

  unheard_aside : (c : List ℕ) (fault : TalkFault) (bytes lines : List ℕ) (result : Result (Unit {0}) Stop) → (on : OnLane a old new (Err fault)) → IsTalkCause a old new before now fault → IsUnheard c fault bytes lines result
      → AddsAside old new result
  unheard_aside c (talk.Lane fault) bytes lines result on cause is = aside_so (stop_of fault) result (one_aside old new on.added (subst (λ l. asides l ≤ 1) (sym on.adds) (fault_few fault)) on.goes.sides) is
  unheard_aside c (talk.Delta fault) bytes lines result on cause is = aside_so (delta_stop fault) result (one_aside old new on.added (subst (λ l. asides l ≤ 1) (sym on.adds) (delta_few fault)) on.goes.sides) is
  unheard_aside c (talk.Store fault) bytes lines result on cause is = stored_aside c fault on.added bytes lines result on.goes on.adds is
  unheard_aside c (talk.Door fault) bytes lines result on cause is = absurd cause
  unheard_aside c talk.NoMemory bytes lines result on cause is = none_aside result (let steps = subst (Goes old new) on.adds on.goes in omega (arith, steps.sides))

  pub heard_aside : (e : ActEnd) (result : Result (Unit {0}) Stop) → OnLane a old new (Ok e) → AddsAside old new result
  heard_aside e result on = none_aside result (omega (arith, on.goes.sides, ended_aside a e on.added on.adds))

  pub unheard_runs : (c : List ℕ) (fault : TalkFault) (bytes lines : List ℕ) (result : Result (Unit {0}) Stop) → OnLane a old new (Err fault) → OnStore a before now (Err fault) → IsTalkCause a old new before now fault
      → IsUnheard c fault bytes lines result → LaneHears old new before now result
  unheard_runs c fault bytes lines result on store_is cause is = record {
    later = on.goes.later;
    sides = unheard_aside c fault bytes lines result on cause is;
    counts = store_is.later;
    ends = unheard_ends c fault bytes lines result on cause is;
  }

-- ---- acts one after another

rose_since : (first : ℕ) (before now : ℕ) (note : FaultNote) → first ≤ before → ranges.IsNoted before now note → ranges.IsNoted first now note
rose_since first before now note le is = record { first = omega (arith, le, is.first); last = is.last; rose = is.rose }

-- the end of one is an end of all
pub ends_later : (old mid new : Standing) (before between now : Storing) (stop : Stop) → old.keeping.faults ≤ mid.keeping.faults → before.faults ≤ between.faults → EndsHearing mid new between now stop → EndsHearing old new before now stop
ends_later old mid new before between now (KeeperFault note) later counts ends = rose_since old.keeping.faults mid.keeping.faults new.keeping.faults note later ends
ends_later old mid new before between now (StoreFailed note) later counts ends = record { before = omega (arith, counts, ends.before); after = ends.after; rose = ends.rose }
ends_later old mid new before between now (BadStored (Lane fault)) later counts ends = ends
ends_later old mid new before between now (BadStored (Delta number)) later counts ends = ends
ends_later old mid new before between now (BadStored (Object fault)) later counts ends = absurd ends
ends_later old mid new before between now NoMemory later counts ends = tt

-- ---- on a desk

module _ (first steps : ℕ) (o : Opened) (name : List ℕ) (old new : Standing) (run : HasRun first steps o) (there : get o.lanes name ≡ Some old) (out : IsSome (get o.shelving.out name)) (later : old.keeping.faults ≤ new.keeping.faults)
    (sides : new.sides ≤ old.sides + 1) where
  refuses_there : (number : ℕ) → RefusesMessage new number → MessageRefuses (with_lane o name new) number
  refuses_there number refuses = record { name = name; lane = new; there = get_own o.lanes name new; refuses = refuses }

  reading_ends : (stop : Stop) → EndsReading old new stop → EndsForReading first (with_lane o name new) stop
  reading_ends (KeeperFault note) ends = lane_ends first steps o name old new run there out later sides (KeeperFault note) ends
  reading_ends (StoreFailed note) ends = absurd ends
  reading_ends (BadStored (Lane fault)) ends = lane_ends first steps o name old new run there out later sides (BadStored (Lane fault)) ends
  reading_ends (BadStored (Delta number)) ends = refuses_there number ends
  reading_ends (BadStored (Object fault)) ends = absurd ends
  reading_ends NoMemory ends = tt

  hearing_ends : (before now : Storing) (stop : Stop) → EndsHearing old new before now stop → EndsForHearing first before now (with_lane o name new) stop
  hearing_ends before now (KeeperFault note) ends = lane_ends first steps o name old new run there out later sides (KeeperFault note) ends
  hearing_ends before now (StoreFailed note) ends = ends
  hearing_ends before now (BadStored (Lane fault)) ends = lane_ends first steps o name old new run there out later sides (BadStored (Lane fault)) ends
  hearing_ends before now (BadStored (Delta number)) ends = refuses_there number ends
  hearing_ends before now (BadStored (Object fault)) ends = absurd ends
  hearing_ends before now NoMemory ends = tt

  reads_by : {A : Type 0} (result : Result A Stop) → EndsReadingBy old new result → RunsReading first (steps + 1) (with_lane o name new) result
  reads_by (Ok a) ends = lane_run first steps o name old new run there out later sides
  reads_by (Err stop) ends = record { shelves = run.shelves; few = lane_few steps o name run.few old new there sides; ends = reading_ends stop ends }

  hears_by : {A : Type 0} (before now : Storing) (result : Result A Stop) → EndsHearingBy old new before now result → RunsHearing first (steps + 1) before now (with_lane o name new) result
  hears_by before now (Ok a) ends = lane_run first steps o name old new run there out later sides
  hears_by before now (Err stop) ends = record { shelves = run.shelves; few = lane_few steps o name run.few old new there sides; ends = hearing_ends before now stop ends }

aside_one : {A : Type 0} (old new : Standing) (result : Result A Stop) → AddsAside old new result → new.sides ≤ old.sides + 1
aside_one old new (Ok a) le = omega (arith, le)
aside_one old new (Err stop) le = le

pub reads_desk : {A : Type 0} (first steps : ℕ) (o : Opened) (name : List ℕ) (old new : Standing) (result : Result A Stop) → HasRun first steps o → get o.lanes name ≡ Some old → IsSome (get o.shelving.out name) → LaneReads old new result
    → RunsReading first (steps + 1) (with_lane o name new) result
reads_desk first steps o name old new result run there out reads = reads_by first steps o name old new run there out reads.later (aside_one old new result reads.sides) result reads.ends

pub hears_desk : {A : Type 0} (first steps : ℕ) (o : Opened) (name : List ℕ) (old new : Standing) (before now : Storing) (result : Result A Stop) → HasRun first steps o → get o.lanes name ≡ Some old → IsSome (get o.shelving.out name)
    → LaneHears old new before now result → RunsHearing first (steps + 1) before now (with_lane o name new) result
hears_desk first steps o name old new before now result run there out hears = hears_by first steps o name old new run there out hears.later (aside_one old new result hears.sides) before now result hears.ends

-- a step that didn't come to the lane of its document
reading_of : (first : ℕ) (o : Opened) (stop : Stop) → EndsFor first o stop → EndsForReading first o stop
reading_of first o (KeeperFault note) ends = ends
reading_of first o (StoreFailed note) ends = ends
reading_of first o (BadStored (Lane fault)) ends = ends
reading_of first o (BadStored (Delta number)) ends = absurd ends
reading_of first o (BadStored (Object fault)) ends = ends
reading_of first o NoMemory ends = ends

hearing_of : (first : ℕ) (before now : Storing) (o : Opened) (stop : Stop) → EndsFor first o stop → EndsForHearing first before now o stop
hearing_of first before now o (KeeperFault note) ends = ends
hearing_of first before now o (StoreFailed note) ends = absurd ends
hearing_of first before now o (BadStored (Lane fault)) ends = ends
hearing_of first before now o (BadStored (Delta number)) ends = absurd ends
hearing_of first before now o (BadStored (Object fault)) ends = ends
hearing_of first before now o NoMemory ends = ends

pub stops_reading : (first steps : ℕ) (o : Opened) (stop : Stop) → StopsFor first steps o stop → StopsForReading first (steps + 1) o stop
stops_reading first steps o stop stops = record { shelves = stops.shelves; few = few_more steps o stops.few; ends = reading_of first o stop stops.ends }

pub stops_hearing : (first steps : ℕ) (before now : Storing) (o : Opened) (stop : Stop) → StopsFor first steps o stop → StopsForHearing first (steps + 1) before now o stop
stops_hearing first steps before now o stop stops = record { shelves = stops.shelves; few = few_more steps o stops.few; ends = hearing_of first before now o stop stops.ends }

-- nothing but want of memory ended it
pub memory_hears : {A : Type 0} (first steps : ℕ) (o : Opened) (before now : Storing) (result : Result A Stop) → HasRun first steps o → IfErr result (λ stop. stop ≡ NoMemory) → RunsHearing first (steps + 1) before now o result
memory_hears first steps o before now (Ok a) run is = run_more first steps o run
memory_hears first steps o before now (Err stop) run is = record { shelves = run.shelves; few = few_more steps o run.few; ends = subst (EndsForHearing first before now o) (sym is) tt }
