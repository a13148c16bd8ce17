-- Parts of a workload, one after another.
use Rattle.std.proofs.Common.{◌≡◌, inl, ℕ, ◌+◌, ◌*◌, ◌≤◌, arith, true, [], length, Option, Some, None, Result, Ok, Err, refl, sym, subst, ◌∙◌}
use Rattle.std.specs.Prelude.{OnOk}
use Rattle.std.specs.Option.{option_map_or}
use Rattle.std.specs.FinMap.{get}
use Rattle.fluid_lane.specs.declared.fault.LaneFault.TheVariants as lane
use Rattle.fluid_lane.specs.Standing.{Standing}
use Rattle.fluid_store.specs.Storing.{Storing}
use Rattle.fluid_lanes.specs.Opened.{Opened}
use Rattle.fluid_transcript.specs.World.{World, document}
use Rattle.fluid_desk.specs.Stopping.{IsHonest, steps_in, MayStop, AreFew, HasRun}
use Rattle.fluid_workload.specs.Working.{Workload}
use Rattle.fluid_desk.specs.declared.stop.Stop.{Stop}
use Rattle.fluid_desk.specs.declared.stop.Stop.TheVariants.{KeeperFault, StoreFault, BadStored, NoMemory}
use Rattle.fluid_desk.specs.declared.stop.StoredFault.TheVariants.{Lane, Delta, Object}
use Rattle.fluid_containers.specs.Ending.{RunsLinking}
use Rattle.fluid_table.specs.Table.{Values}
use Rattle.fluid_world.specs.declared.named.Named.{Named}
use Rattle.fluid_world.specs.Naming.{AreBounded}
use Rattle.fluid_world.proofs.Stepped.{bounded_more}
use Rattle.fluid_world.specs.Going.{stops_since}
use Rattle.fluid_load.specs.Standing.{AtWork, GrowsBy, IsFair, WearsBy, WorkStands, WorkGoes, WorkBegins, ActsOn, HasNumbers, Next, LeadsTo, Works, Opens, CanWork, CanBegin, CanPass}

-- how a part ends
abbrev pub Ended : Type 0
Ended = Result (Unit {0}) Stop

-- ---- how documents wear

honest_more : (a b : ℕ) (stop : Stop) → a ≤ b → IsHonest a stop → IsHonest b stop
honest_more a b (KeeperFault note) le honest = tt
honest_more a b (StoreFault note) le honest = tt
honest_more a b NoMemory le honest = tt
honest_more a b (BadStored (Delta number)) le honest = absurd honest
honest_more a b (BadStored (Object fault)) le honest = absurd honest
honest_more a b (BadStored (Lane lane.Worn)) le honest = omega (arith, le, honest)
honest_more a b (BadStored (Lane (lane.LogFailed note))) le honest = absurd honest
honest_more a b (BadStored (Lane (lane.Full entries))) le honest = absurd honest
honest_more a b (BadStored (Lane (lane.BadRecord place))) le honest = absurd honest
honest_more a b (BadStored (Lane (lane.NoCheckpoint asked stored))) le honest = absurd honest
honest_more a b (BadStored (Lane lane.CheckpointsFull)) le honest = absurd honest
honest_more a b (BadStored (Lane lane.TooManyClients)) le honest = absurd honest
honest_more a b (BadStored (Lane (lane.DeltaFailed note))) le honest = absurd honest
honest_more a b (BadStored (Lane lane.NoMemory)) le honest = absurd honest
honest_more a b (BadStored (Lane (lane.BadCheckpoint number fault))) le honest = absurd honest
honest_more a b (BadStored (Lane (lane.TooLarge bytes))) le honest = absurd honest

sides_few : (steps : ℕ) (o : Option Standing) → ((s : Standing) → o ≡ Some s → s.sides ≤ steps) → option_map_or (λ (s : Standing). s.sides) o 0 ≤ steps
sides_few steps None few = omega arith
sides_few steps (Some s) few = few s refl

-- a step may end so, which would leave this world
pub stop_wears : (steps more : ℕ) (old new : World) (o : Opened) (stop : Stop) → GrowsBy more old new → AreFew (steps + more) o → MayStop new o stop → IsFair (steps + 2 * more) old stop
stop_wears steps more old new o stop grows few (name, honest) =
    (name, honest_more (steps_in new o name) (length (document old name).raws + (steps + 2 * more)) stop (omega (arith, grows name, sides_few (steps + more) (get o.lanes name) (few name))) honest)

pub grows_not : (more : ℕ) (w : World) → GrowsBy more w w
grows_not more w name = omega arith

pub short_wears : (more : ℕ) (w : World) → IsFair more w NoMemory
short_wears more w = ([], tt)

wears_more : (steps m n : ℕ) (old new : World) (r : Ended) → m ≤ n → WearsBy steps m old new r → WearsBy steps n old new r
wears_more steps m n old new (Ok done) le grows = λ name. omega (arith, le, grows name)
wears_more steps m n old new (Err stop) le (name, honest) =
    (name, honest_more (length (document old name).raws + (steps + 2 * m)) (length (document old name).raws + (steps + 2 * n)) stop (omega (arith, le)) honest)

wears_then : (steps m n : ℕ) (old mid new : World) (r : Ended) → GrowsBy m old mid → WearsBy (steps + m) n mid new r → WearsBy steps (m + n) old new r
wears_then steps m n old mid new (Ok done) one other = λ name. omega (arith, one name, other name)
wears_then steps m n old mid new (Err stop) one (name, honest) =
    (name, honest_more (length (document mid name).raws + (steps + m + 2 * n)) (length (document old name).raws + (steps + 2 * (m + n))) stop (omega (arith, one name)) honest)

-- whatever a part that stopped would have left
wears_stop : (steps m n : ℕ) (old one other : World) (stop : Stop) → m ≤ n → WearsBy steps m old one (Err stop) → WearsBy steps n old other (Err stop)
wears_stop steps m n old one other stop le wears = wears_more steps m n old one (Err stop) le wears

-- ---- on every desk

few_by : (m n : ℕ) (o : Opened) → m ≤ n → AreFew m o → AreFew n o
few_by m n o le few name s there = omega (arith, le, few name s there)

pub run_by : (first m n : ℕ) (o : Opened) → m ≤ n → HasRun first m o → HasRun first n o
run_by first m n o le run = record { shelves = run.shelves; lanes = run.lanes; few = few_by m n o le run.few }

links_by : (first m n : ℕ) (before now : Storing) (o : Opened) (r : Ended) → m ≤ n → RunsLinking first m before now o r → RunsLinking first n before now o r
links_by first m n before now o (Ok done) le run = run_by first m n o le run
links_by first m n before now o (Err stop) le stops = record { shelves = stops.shelves; few = few_by m n o le stops.few; ends = stops.ends }

-- memory was wanting before anything was done
pub on_short : (more : ℕ) (a : AtWork) → ActsOn more a a (Err NoMemory)
on_short more a = record { limits = refl; good = refl; counts = omega arith; runs = λ first steps run. record { shelves = run.shelves; few = few_by steps (steps + more) a.lanes (omega arith) run.few; ends = tt }; numbers = tt }

-- nothing was done
pub on_none : (more : ℕ) (a : AtWork) → ActsOn more a a (Ok tt)
on_none more a = record { limits = refl; good = refl; counts = omega arith; runs = λ first steps run. run_by first steps (steps + more) a.lanes (omega arith) run; numbers = λ n few. bounded_more n (n + more) a.names (omega arith) few }

since : (first steps : ℕ) (before mid now : Storing) (o : Opened) (r : Ended) → before.faults ≤ mid.faults → RunsLinking first steps mid now o r → RunsLinking first steps before now o r
since first steps before mid now o (Ok done) le h = h
since first steps before mid now o (Err stop) le h = stops_since first steps before mid now o stop le h

abbrev Counts : (more : ℕ) → (old new : Values Named) → Ended → Type 0
Counts more old new r = OnOk r ((n : ℕ) → AreBounded n old → AreBounded (n + more) new)

counts_more : (m n : ℕ) (old new : Values Named) (r : Ended) → m ≤ n → Counts m old new r → Counts n old new r
counts_more m n old new (Ok done) le h = λ k few. bounded_more (k + m) (k + n) new (omega (arith, le)) (h k few)
counts_more m n old new (Err stop) le h = tt

counts_then : (m n : ℕ) (old mid new : Values Named) (r : Ended) → Counts m old mid (Ok tt) → Counts n mid new r → Counts (m + n) old new r
counts_then m n old mid new (Ok done) one other = λ k few. bounded_more (k + m + n) (k + (m + n)) new (omega arith) (other (k + m) (one k few))
counts_then m n old mid new (Err stop) one other = tt

pub more_on : (m n : ℕ) (a b : AtWork) (r : Ended) → m ≤ n → ActsOn m a b r → ActsOn n a b r
more_on m n a b r le on = record {
  limits = on.limits;
  good = on.good;
  counts = on.counts;
  runs = λ first steps run. links_by first (steps + m) (steps + n) a.store b.store b.lanes r (omega (arith, le)) (on.runs first steps run);
  numbers = counts_more m n a.names b.names r le on.numbers;
}

pub then_on : (m n : ℕ) (a b d : AtWork) (r : Ended) → ActsOn m a b (Ok tt) → ActsOn n b d r → ActsOn (m + n) a d r
then_on m n a b d r one other = record {
  limits = other.limits ∙ one.limits;
  good = other.good ∙ one.good;
  counts = omega (arith, one.counts, other.counts);
  runs = λ first steps run.
      links_by first (steps + m + n) (steps + (m + n)) a.store d.store d.lanes r (omega arith)
      (since first (steps + m + n) a.store b.store d.store d.lanes r one.counts (other.runs first (steps + m) (one.runs first steps run)));
  numbers = counts_then m n a.names b.names d.names r one.numbers other.numbers;
}

-- ---- where the document is open

pub short_works : (more : ℕ) (next : Next) (a : AtWork) → Works more next a a (Err NoMemory)
short_works more next a = record { on = on_short more a; leads = λ w good goes. tt; wears = λ w first steps good goes run. short_wears (steps + 2 * more) w.world }

pub short_behind : (more : ℕ) (next : Next) (a b : AtWork) → b ≡ a → Works more next a b (Err NoMemory)
short_behind more next a b same = subst (λ s. Works more next a s (Err NoMemory)) (sym same) (short_works more next a)

module _ {m n : ℕ} {f g : Next} {a b : AtWork} where
  pub then_works : {d : AtWork} {r : Ended} → Works m f a b (Ok tt) → Works n g b d r → Works (m + n) (λ l w. g l (f l w)) a d r
  then_works {d = d} {r = r} one other = record {
    on = then_on m n a b d r one.on other.on;
    leads = λ w good goes.
        subst (λ l. LeadsTo (g l (f a.lanes.limits w)) d r) one.on.limits (other.leads (f a.lanes.limits w) (one.on.good ∙ good) (one.leads w good goes));
    wears = λ w first steps good goes run.
        let mid = f a.lanes.limits w in
        wears_then steps m n w.world mid.world (g a.lanes.limits mid).world r (one.wears w first steps good goes run)
        (subst (λ l. WearsBy (steps + m) n mid.world (g l mid).world r) one.on.limits
        (other.wears mid first (steps + m) (one.on.good ∙ good) (one.leads w good goes) (one.on.runs first steps run)));
  }

  pub stop_works : {stop : Stop} → m ≤ n → Works m f a b (Err stop) → Works n g a b (Err stop)
  stop_works {stop = stop} le one = record {
    on = more_on m n a b (Err stop) le one.on;
    leads = λ w good goes. tt;
    wears = λ w first steps good goes run. wears_stop steps m n w.world (f a.lanes.limits w).world (g a.lanes.limits w).world stop le (one.wears w first steps good goes run);
  }

-- behind a part that did something
pub stop_then : {m n k : ℕ} {f g h : Next} {a b d : AtWork} {stop : Stop} → m + n ≤ k → Works m f a b (Ok tt) → Works n g b d (Err stop) → Works k h a d (Err stop)
stop_then le one other = stop_works le (then_works one other)

module _ {m : ℕ} {f : Next} {a b : AtWork} {r : Ended} where
  pub more_works : (n : ℕ) → m ≤ n → Works m f a b r → Works n f a b r
  more_works n le one = record {
    on = more_on m n a b r le one.on;
    leads = one.leads;
    wears = λ w first steps good goes run. wears_more steps m n w.world (f a.lanes.limits w).world r le (one.wears w first steps good goes run);
  }

  -- the same said otherwise
  pub as_works : (g : Next) → ((w : Workload) → a.good ≡ true → WorkGoes a w → f a.lanes.limits w ≡ g a.lanes.limits w) → Works m f a b r → Works m g a b r
  as_works g same one = record {
    on = one.on;
    leads = λ w good goes. subst (λ v. LeadsTo v b r) (same w good goes) (one.leads w good goes);
    wears = λ w first steps good goes run. subst (λ (v : Workload). WearsBy steps m w.world v.world r) (same w good goes) (one.wears w first steps good goes run);
  }

-- ---- where it may not be open yet

begins : (a : AtWork) (w : Workload) → WorkGoes a w → WorkBegins a w
begins a w goes = record { stands = goes.stands; opens = inl goes.open_is }

pub opened_works : {m : ℕ} {f : Next} {a b : AtWork} {r : Ended} → Opens m f a b r → Works m f a b r
opened_works {m = m} {f = f} {a = a} one = record {
  on = one.on;
  leads = λ w good goes. one.leads w good (begins a w goes);
  wears = λ w first steps good goes run. one.wears w first steps good (begins a w goes) run;
}

pub short_opens : (more : ℕ) (next : Next) (a : AtWork) → Opens more next a a (Err NoMemory)
short_opens more next a = record { on = on_short more a; leads = λ w good goes. tt; wears = λ w first steps good goes run. short_wears (steps + 2 * more) w.world }

module _ {m n : ℕ} {f g : Next} {a b : AtWork} where
  pub then_opens : {d : AtWork} {r : Ended} → Opens m f a b (Ok tt) → Works n g b d r → Opens (m + n) (λ l w. g l (f l w)) a d r
  then_opens {d = d} {r = r} one other = record {
    on = then_on m n a b d r one.on other.on;
    leads = λ w good goes.
        subst (λ l. LeadsTo (g l (f a.lanes.limits w)) d r) one.on.limits (other.leads (f a.lanes.limits w) (one.on.good ∙ good) (one.leads w good goes));
    wears = λ w first steps good goes run.
        let mid = f a.lanes.limits w in
        wears_then steps m n w.world mid.world (g a.lanes.limits mid).world r (one.wears w first steps good goes run)
        (subst (λ l. WearsBy (steps + m) n mid.world (g l mid).world r) one.on.limits
        (other.wears mid first (steps + m) (one.on.good ∙ good) (one.leads w good goes) (one.on.runs first steps run)));
  }

  pub stop_opens : {stop : Stop} → m ≤ n → Opens m f a b (Err stop) → Opens n g a b (Err stop)
  stop_opens {stop = stop} le one = record {
    on = more_on m n a b (Err stop) le one.on;
    leads = λ w good goes. tt;
    wears = λ w first steps good goes run. wears_stop steps m n w.world (f a.lanes.limits w).world (g a.lanes.limits w).world stop le (one.wears w first steps good goes run);
  }

pub stop_opened : {m n k : ℕ} {f g h : Next} {a b d : AtWork} {stop : Stop} → m + n ≤ k → Opens m f a b (Ok tt) → Works n g b d (Err stop) → Opens k h a d (Err stop)
stop_opened le one other = stop_opens le (then_opens one other)

pub more_opens : {m : ℕ} {f : Next} {a b : AtWork} {r : Ended} (n : ℕ) → m ≤ n → Opens m f a b r → Opens n f a b r
more_opens {m = m} {f = f} {a = a} {b = b} {r = r} n le one = record {
  on = more_on m n a b r le one.on;
  leads = one.leads;
  wears = λ w first steps good goes run. wears_more steps m n w.world (f a.lanes.limits w).world r le (one.wears w first steps good goes run);
}

-- ---- what may be done

pub fewer : (m n : ℕ) (s : AtWork) → m ≤ n → HasNumbers n s → HasNumbers m s
fewer m n s le (k, (counted, room)) = (k, (counted, omega (arith, le, room)))

pub can_less : (m n : ℕ) (s : AtWork) → m ≤ n → CanWork n s → CanWork m s
can_less m n s le can = record { may = can.may; few = fewer m n s le can.few }

few_then : (m n : ℕ) (a b : AtWork) → HasNumbers (m + n) a → ActsOn m a b (Ok tt) → HasNumbers n b
few_then m n a b (k, (counted, room)) on = (k + m, (on.numbers k counted, omega (arith, room)))

pub can_then : (m n : ℕ) {f : Next} {a b : AtWork} → CanWork (m + n) a → Works m f a b (Ok tt) → CanWork n b
can_then m n {f = f} {a = a} {b = b} can one = record { may = λ good. by (sym one.on.good ∙ good) (can.may (sym one.on.good ∙ good)); few = few_then m n a b can.few one.on }
  where
    by : a.good ≡ true → (w : Workload) × WorkGoes a w → (w : Workload) × WorkGoes b w
    by good (w, goes) = (f a.lanes.limits w, one.leads w good goes)

pub can_behind : (m n : ℕ) {f : Next} {a b : AtWork} → CanBegin (m + n) a → Opens m f a b (Ok tt) → CanWork n b
can_behind m n {f = f} {a = a} {b = b} can one = record { may = λ good. by (sym one.on.good ∙ good) (can.may (sym one.on.good ∙ good)); few = few_then m n a b can.few one.on }
  where
    by : a.good ≡ true → (w : Workload) × WorkBegins a w → (w : Workload) × WorkGoes b w
    by good (w, goes) = (f a.lanes.limits w, one.leads w good goes)

-- where it is open it may begin
pub can_begin : (m n : ℕ) (s : AtWork) → m ≤ n → CanWork n s → CanBegin m s
can_begin m n s le can = record { may = λ good. by (can.may good); few = fewer m n s le can.few }
  where
    by : (w : Workload) × WorkGoes s w → (w : Workload) × WorkBegins s w
    by (w, goes) = (w, begins s w goes)

pub begin_less : (m n : ℕ) (s : AtWork) → m ≤ n → CanBegin n s → CanBegin m s
begin_less m n s le can = record { may = can.may; few = fewer m n s le can.few }

pub can_pass : (s : AtWork) → CanWork 1 s → CanPass s
can_pass s can = record { may = λ good. by (can.may good); few = can.few }
  where
    by : (w : Workload) × WorkGoes s w → (w : Workload) × WorkStands s w
    by (w, goes) = (w, goes.stands)

pub can_pass_first : (s : AtWork) → CanBegin 1 s → CanPass s
can_pass_first s can = record { may = λ good. by (can.may good); few = can.few }
  where
    by : (w : Workload) × WorkBegins s w → (w : Workload) × WorkStands s w
    by (w, goes) = (w, goes.stands)

-- a client's submission is one step
pub can_submit : (s : AtWork) → CanWork 5 s → CanWork 1 s
can_submit s can = can_less 1 5 s (omega arith) can
