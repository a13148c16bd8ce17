-- Why a container's step ends the script: on its lane, and on a desk.
use Rattle.std.proofs.Common.{◌≡◌, ◌⊎◌, inl, inr, ℕ, ◌+◌, ◌≤◌, arith, Bool, true, false, List, [], Option, Some, None, Result, Ok, Err, refl, sym, ap, subst, ◌∙◌}
use Rattle.std.specs.Prelude.{IsSome, IfSome, IfOk, IfErr}
use Rattle.std.specs.Option.{option_map_or}
use Rattle.std.specs.FinMap.{get}
use Rattle.fluid_io.specs.declared.faults.FaultNote.{FaultNote}
use Rattle.fluid_deltas.specs.Ranges as ranges
use Rattle.fluid_deltas.specs.declared.fault.DeltaFault.{DeltaFault}
use Rattle.fluid_deltas.specs.declared.fault.DeltaFault.TheVariants as delta
use Rattle.fluid_store.specs.Storing.{Storing}
use Rattle.fluid_store.specs.declared.fault.StoreFault.{StoreFault}
use Rattle.fluid_store.specs.declared.fault.StoreFault.TheVariants as store
use Rattle.fluid_lane.specs.declared.fault.LaneFault.{LaneFault}
use Rattle.fluid_lane.specs.declared.fault.LaneFault.TheVariants as lanes
use Rattle.fluid_types.specs.Forms.{largest}
use Rattle.fluid_lane.specs.Standing.{Standing, is_worn}
use Rattle.fluid_lanes.specs.Opened.{Opened, with_lane}
use Rattle.fluid_desk.specs.declared.stop.Stop.{Stop}
use Rattle.fluid_desk.specs.declared.stop.Stop.TheVariants.{KeeperFault, StoreFault as StoreFailed, BadStored, NoMemory}
use Rattle.fluid_desk.specs.declared.stop.StoredFault.TheVariants.{Lane as OfLane, Delta as OfDelta, Object as OfObject}
use Rattle.fluid_desk.specs.Stopping as stops
use Rattle.fluid_desk.specs.Stopping.{stop_of, HasRun, StopsFor, EndsFor, RunsOn}
use Rattle.fluid_desk.specs.Acting.{IsLine}
use Rattle.fluid_desk.proofs.Few.{few_more, lane_few}
use Rattle.fluid_desk.proofs.Running.{lane_run, run_more, stops_more}
use Rattle.fluid_loader.specs.declared.fault.LoadFault.{LoadFault}
use Rattle.fluid_loader.specs.declared.fault.LoadFault.TheVariants as loads
use Rattle.fluid_transcript.specs.Lines as lines
use Rattle.fluid_callers.specs.Ending.{delta_stop, AddsAside, EndsHearing, EndsForHearing, StopsForHearing, RefusesMessage}
use Rattle.fluid_callers.proofs.Ends.{hears_desk}
use Rattle.fluid_door_link.specs.Coursing as coursing
use Rattle.fluid_door_link.specs.Coursing.{Along, IsAlong}
use Rattle.fluid_door_link.specs.Failing as failing
use Rattle.fluid_door_link.specs.Failing.{HasCause, IsTreeCounted, is_refusal, RefusesTree}
use Rattle.fluid_door_link.specs.declared.fault.LentFault.{LentFault}
use Rattle.fluid_door_link.specs.declared.fault.LentFault.TheVariants.{Lane, Deltas, Store}
use Rattle.fluid_containers.specs.Ending.{store_stop, stop_for, EndsForLinking, StopsForLinking, RunsLinking}
use Rattle.fluid_containers.specs.declared.loading.Loaded.{Loaded}
use Rattle.fluid_containers.specs.Loading.{IsTurnedAway}
use Rattle.fluid_containers.specs.Saying.{SaysPumped, SaysEdited, SaysBeaten, SaysProposed}
use Rattle.fluid_containers.specs.Stepping.{LaneLinks}

-- ---- on a lane

-- what became of lane and store, as they were lent and as they are
pub left_so : (good : Bool) (began old new : Standing) (first before now : Storing) (a : Along) (stop : Option LentFault) → old ≡ began → before ≡ first → a ≡ record { lane = new; store = now; stop = a.stop } → stop ≡ a.stop
    → IsAlong good began first a → IsAlong good old before (record { lane = new; store = now; stop = stop })
left_so good began old new first before now a stop at_first at_before at is along =
    subst (λ s. IsAlong good old before (record { lane = new; store = now; stop = s })) (sym is)
    (subst (λ o. IsAlong good o before (record { lane = new; store = now; stop = a.stop })) (sym at_first)
    (subst (λ o. IsAlong good began o (record { lane = new; store = now; stop = a.stop })) (sym at_before)
    (subst (IsAlong good began first) at along)))

if_some : {A : Type 0} (P : A → Type 0) (o : Option A) (a : A) → o ≡ Some a → IfSome o P → P a
if_some P o a is h = subst (λ x. IfSome x P) is h

-- one side step at most
aside_most : (stop : Option LentFault) (old new : Standing) → coursing.AddsAside stop old new → new.sides ≤ old.sides + 1
aside_most None old new le = omega (arith, le)
aside_most (Some fault) old new le = le

module _ (good : Bool) (old new : Standing) (before now : Storing) (stop : Option LentFault) (along : IsAlong good old before (record { lane = new; store = now; stop = stop })) where
  -- a call on lane or store failed
  pub fails_links : {A : Type 0} (fault : LentFault) (result : Stop) → stop ≡ Some fault → result ≡ stop_for fault → LaneLinks {A = A} old new before now (Err result)
  fails_links fault result is same = record {
    later = along.gone.goes.later;
    sides = aside_most stop old new along.sides;
    counts = along.counts;
    ends = inr (fault, (same, if_some (HasCause old new before now) stop fault is along.cause));
  }

  -- nothing but memory was wanting
  pub wants_links : {A : Type 0} (result : Result A Stop) → stop ≡ None → IfErr result (λ stop. stop ≡ NoMemory) → LaneLinks old new before now result
  wants_links (Ok a) none is = record { later = along.gone.goes.later; sides = subst (λ s. coursing.AddsAside s old new) none along.sides; counts = along.counts; ends = tt }
  wants_links (Err end) none is = record { later = along.gone.goes.later; sides = aside_most stop old new along.sides; counts = along.counts; ends = inl is }

-- nothing was lent yet
pub unlent_links : {A : Type 0} (old : Standing) (before : Storing) (result : Result A Stop) → IfErr result (λ stop. stop ≡ NoMemory) → LaneLinks old old before before result
unlent_links old before (Ok a) is = record { later = omega arith; sides = omega arith; counts = omega arith; ends = tt }
unlent_links old before (Err stop) is = record { later = omega arith; sides = omega arith; counts = omega arith; ends = inl is }

-- ---- over a desk that stands for a world

-- a lane that stands for a list refuses nothing but that it is worn
lane_honest : (steps : ℕ) (old new : Standing) (fault : LaneFault) → (is_worn new ≡ true → largest ≤ steps + 1) → failing.LaneFails old new fault → stops.IsHonest steps (stop_of fault)
lane_honest steps old new (lanes.LogFailed note) worn cause = tt
lane_honest steps old new (lanes.DeltaFailed note) worn cause = tt
lane_honest steps old new lanes.Worn worn cause = worn cause
lane_honest steps old new lanes.NoMemory worn cause = tt
lane_honest steps old new (lanes.Full n) worn cause = absurd cause
lane_honest steps old new lanes.TooManyClients worn cause = absurd cause
lane_honest steps old new (lanes.BadRecord n) worn cause = absurd cause
lane_honest steps old new (lanes.NoCheckpoint k n) worn cause = absurd cause
lane_honest steps old new lanes.CheckpointsFull worn cause = absurd cause
lane_honest steps old new (lanes.BadCheckpoint n f) worn cause = absurd cause
lane_honest steps old new (lanes.TooLarge n) worn cause = absurd cause

delta_honest : (steps : ℕ) (old new : Standing) (fault : DeltaFault) → (is_worn new ≡ true → largest ≤ steps + 1) → failing.DeltasFail old new fault → failing.IsHonest (Deltas fault) → stops.IsHonest steps (delta_stop fault)
delta_honest steps old new (delta.DeltaFailed note) worn cause honest = tt
delta_honest steps old new (delta.BadDelta n) worn cause honest = absurd honest
delta_honest steps old new delta.Worn worn cause honest = worn cause
delta_honest steps old new delta.NoMemory worn cause honest = tt

differ : ◌≡◌ {A = Bool} true false → ⊥
differ same = cc

store_honest : (steps : ℕ) (fault : StoreFault) → is_refusal (Store fault) ≡ false → stops.IsHonest steps (store_stop fault)
store_honest steps (store.StoreFailed note) mild = tt
store_honest steps store.NoMemory mild = tt
store_honest steps (store.Clash id kept bytes) mild = absurd (differ mild)
store_honest steps (store.Missing id) mild = absurd (differ mild)
store_honest steps (store.BadObject id place) mild = absurd (differ mild)
store_honest steps (store.Tree f) mild = absurd (differ mild)
store_honest steps (store.NoPath path) mild = absurd (differ mild)

pub fault_honest : (steps : ℕ) (old new : Standing) (before now : Storing) (fault : LentFault) → (is_worn new ≡ true → largest ≤ steps + 1) → HasCause old new before now fault → failing.IsHonest fault → is_refusal fault ≡ false
    → stops.IsHonest steps (stop_for fault)
fault_honest steps old new before now (Lane fault) worn cause honest mild = lane_honest steps old new fault worn cause
fault_honest steps old new before now (Deltas fault) worn cause honest mild = delta_honest steps old new fault worn cause honest
fault_honest steps old new before now (Store fault) worn cause honest mild = store_honest steps fault mild

-- no tree was to be put: none was refused
pub none_refused : (stop : Option LentFault) (trees : ℕ) (fault : LentFault) → IsTreeCounted stop trees → trees ≡ 0 → stop ≡ Some fault → is_refusal fault ≡ false
none_refused stop trees fault after none is =
    by (is_refusal fault) refl
  where
    few : 1 ≤ 0 → ⊥
    few h = omega (arith, h)

    by : (b : Bool) → is_refusal fault ≡ b → is_refusal fault ≡ false
    by false same = same
    by true same = absurd (few (subst (λ n. 1 ≤ n) none (after (ap (λ o. option_map_or is_refusal o false) is ∙ same))))

pub stop_honest : (steps : ℕ) (old new : Standing) (before now : Storing) (stop : Option LentFault) (trees : ℕ) (fault : LentFault) → IsAlong true old before (record { lane = new; store = now; stop = stop })
    → IsTreeCounted stop trees → trees ≡ 0 → stop ≡ Some fault → (is_worn new ≡ true → largest ≤ steps + 1) → stops.IsHonest steps (stop_for fault)
stop_honest steps old new before now stop trees fault along after none is worn =
    fault_honest steps old new before now fault worn (if_some (HasCause old new before now) stop fault is along.cause) (if_some failing.IsHonest stop fault is (along.honest refl)) (none_refused stop trees fault after none is)

-- where the lane stood, and nothing failed
pub left_well : (good : Bool) (began old new : Standing) (first before now : Storing) (a : Along) (stop : Option LentFault) → old ≡ began → before ≡ first → a ≡ record { lane = new; store = now; stop = a.stop } → stop ≡ a.stop
    → IsAlong good began first a → good ≡ true → stop ≡ None → IsAlong true old before (record { lane = new; store = now; stop = None })
left_well good began old new first before now a stop at_first at_before at is along holds none =
    subst (λ g. IsAlong g old before (record { lane = new; store = now; stop = None })) holds
    (subst (λ s. IsAlong good old before (record { lane = new; store = now; stop = s })) none (left_so good began old new first before now a stop at_first at_before at is along))

-- where the lane stood, an end is one that a desk which stands for a world may have
pub left_honest : (good : Bool) (began old new : Standing) (first before now : Storing) (a : Along) (stop : Option LentFault) (trees : ℕ) (fault : LentFault) (result : Stop) → old ≡ began → before ≡ first
    → a ≡ record { lane = new; store = now; stop = a.stop } → stop ≡ a.stop → IsAlong good began first a → good ≡ true → IsTreeCounted a.stop trees → trees ≡ 0 → stop ≡ Some fault → result ≡ stop_for fault
    → (steps : ℕ) → (is_worn new ≡ true → largest ≤ steps + 1) → stops.IsHonest steps result
left_honest good began old new first before now a stop trees fault result at_first at_before at is along holds counted none there same steps worn =
    subst (stops.IsHonest steps) (sym same)
    (stop_honest steps old new before now stop trees fault (subst (λ g. IsAlong g old before (record { lane = new; store = now; stop = stop })) holds (left_so good began old new first before now a stop at_first at_before at is along))
    (subst (λ s. IsTreeCounted s trees) (sym is) counted) none there worn)

-- and on every lane it has its cause
pub left_links : {A : Type 0} (good : Bool) (began old new : Standing) (first before now : Storing) (a : Along) (stop : Option LentFault) (fault : LentFault) (result : Stop) → old ≡ began → before ≡ first
    → a ≡ record { lane = new; store = now; stop = a.stop } → stop ≡ a.stop → IsAlong good began first a → stop ≡ Some fault → result ≡ stop_for fault → LaneLinks {A = A} old new before now (Err result)
left_links good began old new first before now a stop fault result at_first at_before at is along there same =
    fails_links good old new before now stop (left_so good began old new first before now a stop at_first at_before at is along) fault result there same

pub left_wants : {A : Type 0} (good : Bool) (began old new : Standing) (first before now : Storing) (a : Along) (stop : Option LentFault) (result : Result A Stop) → old ≡ began → before ≡ first
    → a ≡ record { lane = new; store = now; stop = a.stop } → stop ≡ a.stop → IsAlong good began first a → stop ≡ None → IfErr result (λ end. end ≡ NoMemory) → LaneLinks old new before now result
left_wants good began old new first before now a stop result at_first at_before at is along none wants =
    wants_links good old new before now stop (left_so good began old new first before now a stop at_first at_before at is along) result none wants

-- ---- on all of a desk

abbrev ended : Stop → Result (Unit {0}) Stop
ended stop = Err stop

module _ (old new : Standing) (before now : Storing) where
  -- but for a refused tree it ends as acts of a connection do
  lane_hears : (fault : LaneFault) → failing.LaneFails old new fault → EndsHearing old new before now (stop_of fault)
  lane_hears (lanes.LogFailed note) cause = cause
  lane_hears (lanes.DeltaFailed note) cause = cause
  lane_hears lanes.Worn cause = cause
  lane_hears lanes.NoMemory cause = tt
  lane_hears (lanes.Full n) cause = absurd cause
  lane_hears lanes.TooManyClients cause = absurd cause
  lane_hears (lanes.BadRecord n) cause = absurd cause
  lane_hears (lanes.NoCheckpoint k n) cause = absurd cause
  lane_hears lanes.CheckpointsFull cause = absurd cause
  lane_hears (lanes.BadCheckpoint n f) cause = absurd cause
  lane_hears (lanes.TooLarge n) cause = absurd cause

  refuses_message : (number : ℕ) → failing.RefusesDelta new number → RefusesMessage new number
  refuses_message number r = record {
    before = r.before;
    added = r.added;
    goes = r.goes;
    range = Ok (r.first, r.end);
    bad = record { first = r.first; end = r.end; asked = refl; within = r.within; bad = r.bad; never = r.never };
  }

  delta_hears : (fault : DeltaFault) → failing.DeltasFail old new fault → EndsHearing old new before now (delta_stop fault)
  delta_hears (delta.DeltaFailed note) cause = cause
  delta_hears (delta.BadDelta n) cause = refuses_message n cause
  delta_hears delta.Worn cause = cause
  delta_hears delta.NoMemory cause = tt

  module _ (first steps : ℕ) (o : Opened) (name : List ℕ) (run : HasRun first steps o) (there : get o.lanes name ≡ Some old) (out : IsSome (get o.shelving.out name)) (later : old.keeping.faults ≤ new.keeping.faults) (sides : new.sides ≤ old.sides + 1)
      (counts : before.faults ≤ now.faults) where
    hears_so : (stop : Stop) → EndsHearing old new before now stop → StopsForHearing first (steps + 1) before now (with_lane o name new) stop
    hears_so stop ends = hears_desk first steps o name old new before now (ended stop) run there out (record { later = later; sides = sides; counts = counts; ends = ends })

    linking : (stop : Stop) → EndsForHearing first before now (with_lane o name new) stop → EndsForLinking first before now (with_lane o name new) stop
    linking (KeeperFault note) ends = ends
    linking (StoreFailed note) ends = ends
    linking (BadStored (OfLane fault)) ends = ends
    linking (BadStored (OfDelta number)) ends = ends
    linking (BadStored (OfObject fault)) ends = absurd ends
    linking NoMemory ends = ends

    links_so : (stop : Stop) → EndsHearing old new before now stop → StopsForLinking first (steps + 1) before now (with_lane o name new) stop
    links_so stop ends = let hears = hears_so stop ends in record { shelves = hears.shelves; few = hears.few; ends = linking stop hears.ends }

    refuses_so : (fault : StoreFault) → RefusesTree now fault → StopsForLinking first (steps + 1) before now (with_lane o name new) (BadStored (OfObject fault))
    refuses_so fault refuses = record { shelves = run.shelves; few = lane_few steps o name run.few old new there sides; ends = refuses }

    store_links : (fault : StoreFault) → failing.StoreFails before now fault → StopsForLinking first (steps + 1) before now (with_lane o name new) (store_stop fault)
    store_links (store.StoreFailed note) cause = links_so (StoreFailed note) cause
    store_links store.NoMemory cause = absurd cause
    store_links (store.Clash id kept bytes) cause = absurd cause
    store_links (store.Missing id) cause = refuses_so (store.Missing id) cause
    store_links (store.BadObject id place) cause = refuses_so (store.BadObject id place) cause
    store_links (store.Tree f) cause = refuses_so (store.Tree f) cause
    store_links (store.NoPath path) cause = refuses_so (store.NoPath path) cause

    fault_links : (fault : LentFault) → HasCause old new before now fault → StopsForLinking first (steps + 1) before now (with_lane o name new) (stop_for fault)
    fault_links (Lane fault) cause = links_so (stop_of fault) (lane_hears fault cause)
    fault_links (Deltas fault) cause = links_so (delta_stop fault) (delta_hears fault cause)
    fault_links (Store fault) cause = store_links fault cause

    stop_links : (stop : Stop) → (stop ≡ NoMemory) ⊎ ((fault : LentFault) × ((stop ≡ stop_for fault) × HasCause old new before now fault)) → StopsForLinking first (steps + 1) before now (with_lane o name new) stop
    stop_links stop (inl is) = subst (StopsForLinking first (steps + 1) before now (with_lane o name new)) (sym is) (links_so NoMemory tt)
    stop_links stop (inr (fault, (is, cause))) = subst (StopsForLinking first (steps + 1) before now (with_lane o name new)) (sym is) (fault_links fault cause)

    pub runs_so : {A : Type 0} (result : Result A Stop) → IfErr result (λ stop. (stop ≡ NoMemory) ⊎ ((fault : LentFault) × ((stop ≡ stop_for fault) × HasCause old new before now fault)))
        → RunsLinking first (steps + 1) before now (with_lane o name new) result
    runs_so (Ok a) ends = lane_run first steps o name old new run there out later sides
    runs_so (Err stop) ends = stop_links stop ends

aside_one : {A : Type 0} (old new : Standing) (result : Result A Stop) → AddsAside old new result → new.sides ≤ old.sides + 1
aside_one old new (Ok a) le = omega (arith, le)
aside_one old new (Err stop) le = le

pub links_desk : {A : Type 0} (first steps : ℕ) (o : Opened) (name : List ℕ) (old new : Standing) (before now : Storing) (result : Result A Stop) → HasRun first steps o → get o.lanes name ≡ Some old → IsSome (get o.shelving.out name)
    → LaneLinks old new before now result → RunsLinking first (steps + 1) before now (with_lane o name new) result
links_desk first steps o name old new before now result run there out links = runs_so old new before now first steps o name run there out links.later (aside_one old new result links.sides) links.counts result links.ends

-- ---- a step that didn't come to the lane of its document

linking_of : (first : ℕ) (before now : Storing) (o : Opened) (stop : Stop) → EndsForHearing first before now o stop → EndsForLinking first before now o stop
linking_of first before now o (KeeperFault note) ends = ends
linking_of first before now o (StoreFailed note) ends = ends
linking_of first before now o (BadStored (OfLane fault)) ends = ends
linking_of first before now o (BadStored (OfDelta number)) ends = ends
linking_of first before now o (BadStored (OfObject fault)) ends = absurd ends
linking_of first before now o NoMemory ends = ends

hearing_for : (first : ℕ) (before now : Storing) (o : Opened) (stop : Stop) → EndsFor first o stop → EndsForHearing first before now o stop
hearing_for first before now o (KeeperFault note) ends = ends
hearing_for first before now o (StoreFailed note) ends = absurd ends
hearing_for first before now o (BadStored (OfLane fault)) ends = ends
hearing_for first before now o (BadStored (OfDelta number)) ends = absurd ends
hearing_for first before now o (BadStored (OfObject fault)) ends = ends
hearing_for first before now o NoMemory ends = ends

-- the same of so many steps
pub stops_linked : (first steps : ℕ) (before now : Storing) (o : Opened) (stop : Stop) → StopsFor first steps o stop → StopsForLinking first steps before now o stop
stops_linked first steps before now o stop stops = record { shelves = stops.shelves; few = stops.few; ends = linking_of first before now o stop (hearing_for first before now o stop stops.ends) }

pub stops_linking : (first steps : ℕ) (before now : Storing) (o : Opened) (stop : Stop) → StopsFor first steps o stop → StopsForLinking first (steps + 1) before now o stop
stops_linking first steps before now o stop stops = stops_linked first (steps + 1) before now o stop (stops_more first steps o stop stops)

pub runs_linking : {A : Type 0} (first steps : ℕ) (before now : Storing) (o : Opened) (result : Result A Stop) → RunsOn first steps o result → RunsLinking first steps before now o result
runs_linking first steps before now o (Ok a) runs = runs
runs_linking first steps before now o (Err stop) runs = stops_linked first steps before now o stop runs

pub memory_links : {A : Type 0} (first steps : ℕ) (o : Opened) (before now : Storing) (result : Result A Stop) → HasRun first steps o → IfErr result (λ stop. stop ≡ NoMemory) → RunsLinking first (steps + 1) before now o result
memory_links first steps o before now (Ok a) run is = run_more first steps o run
memory_links first steps o before now (Err stop) run is = record { shelves = run.shelves; few = few_more steps o run.few; ends = subst (EndsForLinking first before now o) (sym is) tt }

-- a line, or want of memory for it
pub line_links : (first steps : ℕ) (o : Opened) (before now : Storing) (line : List ℕ) (result : Result (List ℕ) Stop) → HasRun first steps o → IsLine line result → RunsLinking first (steps + 1) before now o result
line_links first steps o before now line (Ok text) run is = run_more first steps o run
line_links first steps o before now line (Err stop) run is = record { shelves = run.shelves; few = few_more steps o run.few; ends = subst (EndsForLinking first before now o) (sym is) tt }

-- what is written where neither lane nor store failed ends for want of memory alone
pub line_wants : (line : List ℕ) (result : Result (List ℕ) Stop) → IsLine line result → IfErr result (λ end. end ≡ NoMemory)
line_wants line (Ok text) is = tt
line_wants line (Err stop) is = is

-- so does a line that is told, whatever it says
pub told_wants : {E : Type 0} (line : Result (List ℕ) E) (result : Result (List ℕ) Stop) → ((made : List ℕ) → IfOk line (λ text. text ≡ made) → IsLine made result) → IfErr result (λ end. end ≡ NoMemory)
told_wants (Ok text) result told = line_wants text result (told text refl)
told_wants (Err wanting) result told = line_wants [] result (told [] tt)

wanting_is : {A : Type 0} (result : Result A Stop) → result ≡ Err NoMemory → IfErr result (λ end. end ≡ NoMemory)
wanting_is result is = subst (λ r. IfErr r (λ end. end ≡ NoMemory)) (sym is) refl

pub pumped_wants : (p : List ℕ) (answer : Result ℕ LoadFault) (result : Result (List ℕ) Stop) → SaysPumped p answer result → IfErr result (λ end. end ≡ NoMemory)
pumped_wants p (Ok number) result says = line_wants (lines.pumped_line p number) result says
pumped_wants p (Err fault) result says = wanting_is result says

pub edited_wants : (p : List ℕ) (answer : Result (Unit {0}) LoadFault) (result : Result (List ℕ) Stop) → SaysEdited p answer result → IfErr result (λ end. end ≡ NoMemory)
edited_wants p (Ok done) result says = line_wants (lines.edited_line p) result says
edited_wants p (Err (loads.Edit fault)) result says = line_wants (lines.edit_fault_line p fault) result says
edited_wants p (Err (loads.Refused nack)) result says = line_wants (lines.refused_line p nack.rule) result says
edited_wants p (Err (loads.LinkFailed note)) result says = wanting_is result says
edited_wants p (Err loads.NoSummary) result says = wanting_is result says
edited_wants p (Err (loads.BadSummary path)) result says = wanting_is result says
edited_wants p (Err loads.NoMemory) result says = wanting_is result says
edited_wants p (Err (loads.Clash id kept bytes)) result says = wanting_is result says

pub beaten_wants : (p : List ℕ) (number : ℕ) (answer : Result (Unit {0}) LoadFault) (result : Result (List ℕ) Stop) → SaysBeaten p number answer result → IfErr result (λ end. end ≡ NoMemory)
beaten_wants p number (Ok done) result says = line_wants (lines.beat_line p number) result says
beaten_wants p number (Err (loads.Refused nack)) result says = line_wants (lines.refused_line p nack.rule) result says
beaten_wants p number (Err (loads.Edit fault)) result says = wanting_is result says
beaten_wants p number (Err (loads.LinkFailed note)) result says = wanting_is result says
beaten_wants p number (Err loads.NoSummary) result says = wanting_is result says
beaten_wants p number (Err (loads.BadSummary path)) result says = wanting_is result says
beaten_wants p number (Err loads.NoMemory) result says = wanting_is result says
beaten_wants p number (Err (loads.Clash id kept bytes)) result says = wanting_is result says

pub proposed_wants : (p : List ℕ) (number : ℕ) (answer : Result (List ℕ) LoadFault) (result : Result (List ℕ) Stop) → SaysProposed p number answer result → IfErr result (λ end. end ≡ NoMemory)
proposed_wants p number (Ok id) result says = line_wants (lines.summarized_line p number) result says
proposed_wants p number (Err (loads.Refused nack)) result says = line_wants (lines.refused_line p nack.rule) result says
proposed_wants p number (Err (loads.Clash id kept bytes)) result says = line_wants (lines.clash_line p id) result says
proposed_wants p number (Err (loads.Edit fault)) result says = wanting_is result says
proposed_wants p number (Err (loads.LinkFailed note)) result says = wanting_is result says
proposed_wants p number (Err loads.NoSummary) result says = wanting_is result says
proposed_wants p number (Err (loads.BadSummary path)) result says = wanting_is result says
proposed_wants p number (Err loads.NoMemory) result says = wanting_is result says

-- nobody joined, or memory was wanting
pub turned_runs : (first steps : ℕ) (o : Opened) (before now : Storing) (p : List ℕ) (result : Result (List ℕ × Loaded) Stop) → HasRun first steps o → IsTurnedAway p result → RunsLinking first (steps + 1) before now o result
turned_runs first steps o before now p (Ok made) run is = run_more first steps o run
turned_runs first steps o before now p (Err stop) run is = record { shelves = run.shelves; few = few_more steps o run.few; ends = subst (EndsForLinking first before now o) (sym is) tt }

-- ---- one call behind another

since : (first before now : ℕ) (note : FaultNote) → first ≤ before → ranges.IsNoted before now note → ranges.IsNoted first now note
since first before now note le is = record { first = omega (arith, le, is.first); last = is.last; rose = is.rose }

module _ (old mid new : Standing) (before between now : Storing) (later : old.keeping.faults ≤ mid.keeping.faults) (counts : before.faults ≤ between.faults) where
  lane_later : (fault : LaneFault) → failing.LaneFails mid new fault → failing.LaneFails old new fault
  lane_later (lanes.LogFailed note) cause = since old.keeping.faults mid.keeping.faults new.keeping.faults note later cause
  lane_later (lanes.DeltaFailed note) cause = since old.keeping.faults mid.keeping.faults new.keeping.faults note later cause
  lane_later lanes.Worn cause = cause
  lane_later lanes.NoMemory cause = cause
  lane_later (lanes.Full n) cause = cause
  lane_later lanes.TooManyClients cause = cause
  lane_later (lanes.BadRecord n) cause = cause
  lane_later (lanes.NoCheckpoint k n) cause = cause
  lane_later lanes.CheckpointsFull cause = cause
  lane_later (lanes.BadCheckpoint n f) cause = cause
  lane_later (lanes.TooLarge n) cause = cause

  delta_later : (fault : DeltaFault) → failing.DeltasFail mid new fault → failing.DeltasFail old new fault
  delta_later (delta.DeltaFailed note) cause = since old.keeping.faults mid.keeping.faults new.keeping.faults note later cause
  delta_later (delta.BadDelta n) cause = cause
  delta_later delta.Worn cause = cause
  delta_later delta.NoMemory cause = cause

  store_later : (fault : StoreFault) → failing.StoreFails between now fault → failing.StoreFails before now fault
  store_later (store.StoreFailed note) cause = record { before = omega (arith, counts, cause.before); after = cause.after; rose = cause.rose }
  store_later store.NoMemory cause = cause
  store_later (store.Clash id kept bytes) cause = cause
  store_later (store.Missing id) cause = cause
  store_later (store.BadObject id place) cause = cause
  store_later (store.Tree f) cause = cause
  store_later (store.NoPath path) cause = cause

  cause_later : (fault : LentFault) → HasCause mid new between now fault → HasCause old new before now fault
  cause_later (Lane fault) cause = lane_later fault cause
  cause_later (Deltas fault) cause = delta_later fault cause
  cause_later (Store fault) cause = store_later fault cause

  end_later : (stop : Stop) → (stop ≡ NoMemory) ⊎ ((fault : LentFault) × ((stop ≡ stop_for fault) × HasCause mid new between now fault)) → (stop ≡ NoMemory) ⊎ ((fault : LentFault) × ((stop ≡ stop_for fault) × HasCause old new before now fault))
  end_later stop (inl is) = inl is
  end_later stop (inr (fault, (is, cause))) = inr (fault, (is, cause_later fault cause))

  pub links_later : {A : Type 0} (result : Result A Stop) → mid.sides ≤ old.sides → LaneLinks mid new between now result → LaneLinks old new before now result
  links_later (Ok a) sides links = record { later = omega (arith, later, links.later); sides = omega (arith, sides, links.sides); counts = omega (arith, counts, links.counts); ends = tt }
  links_later (Err stop) sides links = record { later = omega (arith, later, links.later); sides = omega (arith, sides, links.sides); counts = omega (arith, counts, links.counts); ends = end_later stop links.ends }

-- the same end, or an answer made of what was answered
pub links_on : {A B : Type 0} (old new : Standing) (before now : Storing) (a : A) (result : Result B Stop) → LaneLinks old new before now (Ok a) → IfErr result (λ end. end ≡ NoMemory) → LaneLinks old new before now result
links_on old new before now a (Ok b) links wants = record { later = links.later; sides = links.sides; counts = links.counts; ends = tt }
links_on old new before now a (Err stop) links wants = record { later = links.later; sides = omega (arith, links.sides); counts = links.counts; ends = inl wants }
