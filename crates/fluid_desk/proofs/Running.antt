-- Counts of faults through the steps of a run, on every desk.
use Rattle.std.proofs.Common.{◌≡◌, ◌⊎◌, inl, inr, ℕ, ◌+◌, ◌≤◌, arith, Bool, true, false, cond, List, [], Option, Some, None, Result, Ok, Err, bytes_eq, refl, sym, ap, subst, ◌∙◌}
use Rattle.std.specs.Prelude.{IsSome, IfOk}
use Rattle.std.specs.FinMap.{get}
use Rattle.std.proofs.lemmas.Bool.{false≢true}
use Rattle.std.proofs.lemmas.Slice.Eq.{bytes_eq-Decides}
use Rattle.fluid_table.proofs.Places.{get_inserted, get_removed, get_own}
use Rattle.fluid_io.specs.Causes.{Rose}
use Rattle.fluid_io.specs.declared.faults.FaultNote.{FaultNote}
use Rattle.fluid_log.specs.Shelving.{Shelving}
use Rattle.fluid_lane.specs.declared.fault.LaneFault.{LaneFault}
use Rattle.fluid_lane.specs.declared.fault.LaneFault.TheVariants as lane
use Rattle.fluid_lane.specs.Standing.{Standing}
use Rattle.fluid_opening.specs.declared.fault.DoorFault.{DoorFault}
use Rattle.fluid_opening.specs.declared.fault.DoorFault.TheVariants as door
use Rattle.fluid_lanes.specs.Opened.{Opened, with_lane}
use Rattle.fluid_lanes.specs.Using.{Uses, UsesBy, OpensNew, FailsToOpen, Ends}
use Rattle.fluid_lanes.specs.Closing.{Closes, HasFailed}
use Rattle.fluid_desk.specs.declared.stop.Stop.{Stop}
use Rattle.fluid_desk.specs.declared.stop.Stop.TheVariants.{KeeperFault, StoreFault, BadStored, NoMemory}
use Rattle.fluid_desk.specs.declared.stop.StoredFault.TheVariants.{Lane, Delta, Object}
use Rattle.fluid_desk.specs.Stopping.{stop_of, turned_by, LaneEnds, LaneEndsBy, LaneRuns, HasRun, EndsFor, StopsFor, RunsOn}
use Rattle.fluid_store.specs.Storing.{Storing}
use Rattle.fluid_desk.specs.Acting.{IsLine}
use Rattle.fluid_desk.specs.Scribing.{EndsWith, EndsWithBy, LaneRunsWith, EndsForWith, RunsWith}
use Rattle.fluid_desk.proofs.Few.{few_more, lane_few, opened_few, unopened_few, end_few}

same_some : {A : Type 0} (a b : A) → ◌≡◌ {A = Option A} (Some a) (Some b) → a ≡ b
same_some a b same = cc

none_some : {A : Type 0} (a : A) → ◌≡◌ {A = Option A} None (Some a) → ⊥
none_some a same = cc

there_is : {A : Type 0} (o : Option A) → IsSome o → (a : A) × (o ≡ Some a)
there_is None is = absurd (false≢true is)
there_is (Some a) is = (a, refl)

-- ---- a call on the lane of an open document

module _ (before steps : ℕ) (o : Opened) (name : List ℕ) (old new : Standing) (run : HasRun before steps o) (there : get o.lanes name ≡ Some old) (out : IsSome (get o.shelving.out name)) (later : old.keeping.faults ≤ new.keeping.faults)
    (sides : new.sides ≤ old.sides + 1) where
  kept_at : (q : List ℕ) (b : Bool) (lane : Standing) (given : ℕ) → bytes_eq q name ≡ b → cond b (Some new) (get o.lanes q) ≡ Some lane → get o.shelving.out q ≡ Some given → given ≤ lane.keeping.faults
  kept_at q true lane given is lane_is given_is =
      let own = run.lanes q old given (ap (get o.lanes) ((bytes_eq-Decides q name).0 is) ∙ there) given_is in
      omega (arith, own, later, ap (λ (s : Standing). s.keeping.faults) (same_some new lane lane_is))
  kept_at q false lane given is lane_is given_is = run.lanes q lane given lane_is given_is

  pub lane_run : HasRun before (steps + 1) (with_lane o name new)
  lane_run = record {
    shelves = run.shelves;
    lanes = λ q lane given lane_is given_is. kept_at q (bytes_eq q name) lane given refl (sym (get_inserted o.lanes name new q) ∙ lane_is) given_is;
    few = lane_few steps o name run.few old new there sides;
  }

  given_there : (given : ℕ) × (get o.shelving.out name ≡ Some given)
  given_there = there_is (get o.shelving.out name) out

  pub lane_ends : (stop : Stop) → LaneEnds old new stop → EndsFor before (with_lane o name new) stop
  lane_ends (KeeperFault note) noted =
      let own = run.lanes name old given_there.0 there given_there.1 in (
        noted.rose,
        inr (
          name,
          record {
            lane = new;
            open_ = get_own o.lanes name new;
            given = given_there.0;
            out = given_there.1;
            rose = omega (arith, own, noted.first, noted.last, noted.rose);
          },
        ),
      )
  lane_ends (StoreFault note) ends = absurd ends
  lane_ends (BadStored (Lane fault)) refuses = inl (record { name = name; lane = new; there = get_own o.lanes name new; refuses = refuses })
  lane_ends (BadStored (Delta number)) ends = absurd ends
  lane_ends (BadStored (Object fault)) ends = absurd ends
  lane_ends NoMemory ends = tt

  lane_runs_by : {A : Type 0} (result : Result A Stop) → LaneEndsBy old new result → RunsOn before (steps + 1) (with_lane o name new) result
  lane_runs_by (Ok a) ends = lane_run
  lane_runs_by (Err stop) ends = record { shelves = run.shelves; few = lane_run.few; ends = lane_ends stop ends }

pub lane_runs : {A : Type 0} (before steps : ℕ) (o : Opened) (name : List ℕ) (old new : Standing) (result : Result A Stop) → HasRun before steps o → get o.lanes name ≡ Some old → IsSome (get o.shelving.out name) → LaneRuns old new result
    → RunsOn before (steps + 1) (with_lane o name new) result
lane_runs before steps o name old new result run there out runs = lane_runs_by before steps o name old new run there out runs.later runs.sides result runs.ends

-- a step in which no side step was added
pub run_more : (before steps : ℕ) (o : Opened) → HasRun before steps o → HasRun before (steps + 1) o
run_more before steps o run = record { shelves = run.shelves; lanes = run.lanes; few = few_more steps o run.few }

pub stops_more : (before steps : ℕ) (o : Opened) (stop : Stop) → StopsFor before steps o stop → StopsFor before (steps + 1) o stop
stops_more before steps o stop stops = record { shelves = stops.shelves; few = few_more steps o stops.few; ends = stops.ends }

-- ---- a document that is opened

module _ (before steps : ℕ) (o n : Opened) (name : List ℕ) (moment : ℕ) (run : HasRun before steps o) (opens : OpensNew name moment o n) where
  opened_at : (q : List ℕ) (b : Bool) (lane : Standing) (given : ℕ) → cond b (Some opens.lane) (get o.lanes q) ≡ Some lane → cond b (Some opens.opens.keeper.faults) (get o.shelving.out q) ≡ Some given → given ≤ lane.keeping.faults
  opened_at q true lane given lane_is given_is =
      omega (arith, opens.opens.starts.fresh.later, same_some opens.opens.keeper.faults given given_is, ap (λ (s : Standing). s.keeping.faults) (same_some opens.lane lane lane_is))
  opened_at q false lane given lane_is given_is = run.lanes q lane given lane_is given_is

  opened_run : HasRun before steps n
  opened_run = record {
    shelves = omega (arith, run.shelves, opens.later);
    lanes = λ q lane given lane_is given_is.
        opened_at q (bytes_eq q name) lane given (sym (ap (λ lanes. get lanes q) opens.lanes ∙ get_inserted o.lanes name opens.lane q) ∙ lane_is)
        (sym (ap (λ out. get out q) opens.opens.gives.out ∙ get_inserted o.shelving.out name opens.opens.keeper.faults q) ∙ given_is);
    few = opened_few steps o name run.few n moment opens;
  }

pub use_run : (before steps : ℕ) (o n : Opened) (name : List ℕ) (moment : ℕ) → HasRun before steps o → Uses {A = Unit {0}} name moment o n (Ok tt) → HasRun before steps n
use_run before steps o n name moment run uses = by (get o.lanes name) uses
  where
    by : (l : Option Standing) → UsesBy l name moment o n → HasRun before steps n
    by None opens = opened_run before steps o n name moment run opens
    by (Some lane) same = subst (HasRun before steps) (sym same) run

-- ---- one that wasn't

rose_since : (first before now : ℕ) → first ≤ before → Rose before now → Rose first now
rose_since first before now le rose = omega (arith, le, rose)

-- a line, or want of memory for it
pub line_runs : (before steps : ℕ) (o : Opened) (line : List ℕ) (result : Result (List ℕ) Stop) → HasRun before steps o → IsLine line result → RunsOn before steps o result
line_runs before steps o line (Ok text) run is = run
line_runs before steps o line (Err stop) run is = record { shelves = run.shelves; few = run.few; ends = subst (EndsFor before o) (sym is) tt }

-- the same, whatever the line is
pub told_runs : {E : Type 0} (before steps : ℕ) (o : Opened) (line : Result (List ℕ) E) (result : Result (List ℕ) Stop) → HasRun before steps o → ((made : List ℕ) → IfOk line (λ text. text ≡ made) → IsLine made result)
    → RunsOn before steps o result
told_runs before steps o (Ok text) result run told = line_runs before steps o text result run (told text refl)
told_runs before steps o (Err e) result run told = line_runs before steps o [] result run (told [] tt)

module _ (before steps : ℕ) (o n : Opened) (name : List ℕ) (moment : ℕ) (run : HasRun before steps o) where
  start_ends : (fault : LaneFault) → FailsToOpen name moment o n (door.Lane fault) → EndsFor before n (stop_of fault)
  start_ends (lane.LogFailed note) fails = (fails.does.1.comes_back.partly.cause.rose, inl (rose_since before o.shelving.faults n.shelving.faults run.shelves fails.cause.0))
  start_ends (lane.DeltaFailed note) fails = (fails.does.1.comes_back.partly.cause.rose, inl (rose_since before o.shelving.faults n.shelving.faults run.shelves fails.cause.0))
  start_ends lane.NoMemory fails = tt
  start_ends lane.Worn fails = inr (record { before = o; name = name; moment = moment; fails = fails })
  start_ends (lane.BadRecord k) fails = inr (record { before = o; name = name; moment = moment; fails = fails })
  start_ends (lane.BadCheckpoint k f) fails = inr (record { before = o; name = name; moment = moment; fails = fails })
  start_ends (lane.Full k) fails = inr (record { before = o; name = name; moment = moment; fails = fails })
  start_ends (lane.NoCheckpoint k m) fails = inr (record { before = o; name = name; moment = moment; fails = fails })
  start_ends lane.CheckpointsFull fails = inr (record { before = o; name = name; moment = moment; fails = fails })
  start_ends lane.TooManyClients fails = inr (record { before = o; name = name; moment = moment; fails = fails })
  start_ends (lane.TooLarge k) fails = inr (record { before = o; name = name; moment = moment; fails = fails })

  shelves_later : (later : o.shelving.faults ≤ n.shelving.faults) → before ≤ n.shelving.faults
  shelves_later later = omega (arith, run.shelves, later)

  pub unopened_runs : (fault : DoorFault) → Uses {A = Unit {0}} name moment o n (Err fault) → RunsOn before steps n (turned_by fault)
  unopened_runs (door.ShelfFailed note) uses = record {
    shelves = shelves_later uses.later;
    few = unopened_few steps o name run.few n moment (door.ShelfFailed note) uses;
    ends = (uses.cause.rose, inl (omega (arith, run.shelves, uses.cause.first, uses.cause.last, uses.cause.rose)));
  }
  unopened_runs (door.TooManyDocuments count) uses = subst (HasRun before steps) (sym uses.same) run
  unopened_runs (door.Lane fault) uses = record { shelves = shelves_later uses.later; few = unopened_few steps o name run.few n moment (door.Lane fault) uses; ends = start_ends fault uses }
  unopened_runs door.NoMemory uses = record { shelves = shelves_later uses.later; few = unopened_few steps o name run.few n moment door.NoMemory uses; ends = tt }

-- by the answer of a call
pub ready_runs : (before steps : ℕ) (o n : Opened) (name : List ℕ) (moment : ℕ) (fault : DoorFault) (stop : Stop) → Uses {A = Unit {0}} name moment o n (Err fault) → HasRun before steps o → Err stop ≡ turned_by fault
    → StopsFor before steps n stop
ready_runs before steps o n name moment fault stop uses run is = subst (RunsOn before steps n) (sym is) (unopened_runs before steps o n name moment run fault uses)

-- ---- with the store

module _ (first steps : ℕ) (o : Opened) (name : List ℕ) (old new : Standing) (before now : Storing) (run : HasRun first steps o) (there : get o.lanes name ≡ Some old) (out : IsSome (get o.shelving.out name))
    (later : old.keeping.faults ≤ new.keeping.faults) (sides : new.sides ≤ old.sides + 1) where
  with_ends : (stop : Stop) → EndsWith old new before now stop → EndsForWith first before now (with_lane o name new) stop
  with_ends (KeeperFault note) ends = lane_ends first steps o name old new run there out later sides (KeeperFault note) ends
  with_ends (StoreFault note) ends = ends
  with_ends (BadStored (Lane fault)) ends = lane_ends first steps o name old new run there out later sides (BadStored (Lane fault)) ends
  with_ends (BadStored (Delta number)) ends = absurd ends
  with_ends (BadStored (Object fault)) ends = absurd ends
  with_ends NoMemory ends = tt

  with_by : {A : Type 0} (result : Result A Stop) → EndsWithBy old new before now result → RunsWith first (steps + 1) before (with_lane o name new) now result
  with_by (Ok a) ends = lane_run first steps o name old new run there out later sides
  with_by (Err stop) ends = record { shelves = run.shelves; few = lane_few steps o name run.few old new there sides; ends = with_ends stop ends }

pub lane_runs_with : {A : Type 0} (first steps : ℕ) (o : Opened) (name : List ℕ) (old new : Standing) (before now : Storing) (result : Result A Stop) → HasRun first steps o → get o.lanes name ≡ Some old
    → IsSome (get o.shelving.out name) → LaneRunsWith old new before now result → RunsWith first (steps + 1) before (with_lane o name new) now result
lane_runs_with first steps o name old new before now result run there out runs = with_by first steps o name old new before now run there out runs.later runs.sides result runs.ends

-- a step that didn't come to the store
ends_without : (first : ℕ) (o : Opened) (store : Storing) (stop : Stop) → EndsFor first o stop → EndsForWith first store store o stop
ends_without first o store (KeeperFault note) ends = ends
ends_without first o store (StoreFault note) ends = absurd ends
ends_without first o store (BadStored (Lane fault)) ends = ends
ends_without first o store (BadStored (Delta number)) ends = absurd ends
ends_without first o store (BadStored (Object fault)) ends = absurd ends
ends_without first o store NoMemory ends = tt

pub runs_without : {A : Type 0} (first steps : ℕ) (o : Opened) (store : Storing) (result : Result A Stop) → RunsOn first steps o result → RunsWith first steps store o store result
runs_without first steps o store (Ok a) runs = runs
runs_without first steps o store (Err stop) runs = record { shelves = runs.shelves; few = runs.few; ends = ends_without first o store stop runs.ends }

-- ---- a document that is closed

module _ (before steps : ℕ) (o closed : Opened) (name : List ℕ) (run : HasRun before steps o) where
  ended_at : (q : List ℕ) (b : Bool) (lane : Standing) (given : ℕ) → cond b None (get o.lanes q) ≡ Some lane → cond b None (get o.shelving.out q) ≡ Some given → given ≤ lane.keeping.faults
  ended_at q true lane given lane_is given_is = absurd (none_some lane lane_is)
  ended_at q false lane given lane_is given_is = run.lanes q lane given lane_is given_is

  pub end_run : (l : Option Standing) → Ends name l o closed → HasRun before steps closed
  end_run None same = subst (HasRun before steps) (sym same) run
  end_run (Some lane) ended = record {
    shelves = omega (arith, run.shelves, ended.back.later);
    lanes = λ q lane given lane_is given_is.
        ended_at q (bytes_eq q name) lane given (sym (ap (λ lanes. get lanes q) ended.lanes ∙ get_removed o.lanes name q) ∙ lane_is)
        (sym (ap (λ out. get out q) ended.back.out ∙ get_removed o.shelving.out name q) ∙ given_is);
    few = end_few steps o name run.few closed (Some lane) ended;
  }

-- ---- at last

-- a fault of a keeper is in the count of the shelves that come back
pub risen_at_last : (before steps : ℕ) (o : Opened) (back : Shelving) (note : FaultNote) → StopsFor before steps o (KeeperFault note) → Closes o back → Rose before back.faults
risen_at_last before steps o back note stops closes = by stops.ends.1
  where
    by : Rose before o.shelving.faults ⊎ ((name : List ℕ) × HasFailed o.lanes o.shelving name) → Rose before back.faults
    by (inl rose) = omega (arith, rose, closes.later)
    by (inr failed) = rose_since before o.shelving.faults back.faults stops.shelves (closes.counted failed.0 failed.1)
