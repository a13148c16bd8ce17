-- A workload from its start to its end.
use Rattle.std.proofs.Common.{◌≡◌, inr, ℕ, suc, ◌+◌, ◌*◌, ◌≤◌, arith, Bool, true, false, List, [], ◌∷◌, ◌++◌, length, Option, Some, None, is_some, Ok, Err, refl, sym, ap, subst, ◌∙◌, length-append}
use Rattle.std.specs.Prelude.{zero, if◌then◌else◌, IfSome, ◌==◌, ◌%◌}
use Rattle.std.proofs.lemmas.Bool.{false≢true}
use Rattle.std.specs.FinMap.{get, empty, get-empty}
use Rattle.fluid_table.specs.Table.{byte_order, Values}
use Rattle.fluid_rules.specs.Rules.{ledger}
use Rattle.fluid_io.specs.Streams.{Writing}
use Rattle.fluid_log.specs.Shelving.{Shelving}
use Rattle.fluid_store.specs.Storing.{Storing}
use Rattle.fluid_lane.specs.declared.fault.LaneFault.TheVariants as lane
use Rattle.fluid_lane.specs.Standing.{Standing}
use Rattle.fluid_lanes.specs.Opened.{nothing_open}
use Rattle.fluid_lanes.specs.Closing.{Closes}
use Rattle.fluid_rules.specs.declared.limits.Limits.{Limits}
use Rattle.fluid_gen.specs.Acts.{joins, collects, rounds, turns, choice, acts}
use Rattle.fluid_gen.specs.Drawing.{number_in, state_after}
use Rattle.fluid_gen.specs.declared.act.Act.{Act}
use Rattle.fluid_gen.specs.declared.act.Act.TheVariants as gen
use Rattle.fluid_transcript.specs.World.{World}
use Rattle.fluid_transcript.proofs.Stepping.{first_is_sound}
use Rattle.fluid_desk.specs.declared.stop.Stop.{Stop}
use Rattle.fluid_desk.specs.declared.stop.Stop.TheVariants as stop
use Rattle.fluid_desk.specs.declared.stop.StoredFault.TheVariants.{Lane, Delta, Object}
use Rattle.fluid_desk.specs.Laws.{DesksComeBack, FaultsAreCounted}
use Rattle.fluid_desk.specs.Stopping.{HasRun}
use Rattle.fluid_door_link.specs.Hushing.{hushed, IsHushed, IsShortAsTold}
use Rattle.fluid_containers.specs.Ending.{RunsLinking}
use Rattle.fluid_world.specs.declared.ends.ScriptEnd.{ScriptEnd}
use Rattle.fluid_world.specs.declared.ends.ScriptEnd.TheVariants as end
use Rattle.fluid_world.specs.declared.named.Named.{Named}
use Rattle.fluid_world.specs.Ending.{end_for, Outside, HasCause, IsDeskOf}
use Rattle.fluid_load.proofs.Desks.{world_at_first, moment_at_first, comes_back, stop_cause}
use Rattle.fluid_workload.specs.Working.{Workload, begun, work, p, behind_acts}
use Rattle.fluid_workload.specs.Summary.{summary, written_by, behind_all}
use Rattle.fluid_transcript.specs.Transcript.{written}
use Rattle.fluid_turns.specs.Tallying.{IsTally}
use Rattle.fluid_voice.specs.Ends.{is_beyond}
use Rattle.fluid_load.specs.Standing.{AtWork, IsFair, WearsBy, WorkGoes, WorkBegins, MayBegin, CanBegin, LeadsTo, Opens}
use Rattle.fluid_load.specs.Acting.{acted_all}
use Rattle.fluid_load.specs.Running.{IsBegun, IsBeginning, SaysAll, Concludes, Finishes, FinishesBy}
use Rattle.fluid_load.specs.Ending.{outside, CameBy, IsNewDeskOf, WritesSummary}
use Rattle.fluid_load.proofs.Parts.{Ended}

-- ---- how many acts there are

joins_are : (client count : ℕ) → length (joins client count) ≤ 3 * count
joins_are client zero = omega arith
joins_are client (suc count) = omega (arith, joins_are (client + 1) count)

one_at_most : (b : Bool) (act : Act) → length (if b then act ∷ [] else []) ≤ 1
one_at_most true act = omega arith
one_at_most false act = omega arith

turns_are : (clients turn count x : ℕ) → length (turns clients turn count x) ≤ 3 * count
turns_are clients turn zero x = omega arith
turns_are clients turn (suc count) x =
    let c = choice clients turn x in
    let y = state_after (suc c.draws) x in
    omega (
      arith,
      turns_are clients (turn + 1) count y,
      length-append (collects c.client y) (rounds turn ++ turns clients (turn + 1) count y),
      length-append (rounds turn) (turns clients (turn + 1) count y),
      one_at_most (number_in y 2 == 0) (gen.Collect c.client),
      one_at_most (turn % 1000 == 0) gen.Round,
    )

acts_are : (number clients ops : ℕ) → length (acts number clients ops) ≤ 2 + (3 * clients + 3 * ops)
acts_are number clients ops =
    omega (
      arith,
      joins_are 0 clients,
      turns_are clients 1 ops number,
      length-append (joins 0 clients) (turns clients 1 ops number ++ gen.Finish ∷ []),
      length-append (turns clients 1 ops number) (gen.Finish ∷ []),
    )

-- ---- at first

abbrev pub first_work : Shelving → Limits → Storing → (good : Bool) → AtWork
first_work shelves limits objects good = record { lanes = nothing_open shelves limits; store = hushed good objects; names = empty; sent = empty; tally = record { absorbed = 0; nacked = 0 }; good = good }

nothing_there : (V : Type 0) (none : Values V) (name : List ℕ) (v : V) → get none name ≡ None → get none name ≡ Some v → ⊥
nothing_there V none name v empties there = let both : ◌≡◌ {A = Option V} None (Some v) = sym empties ∙ there in cc

run_at_first : (shelves : Shelving) (limits : Limits) → HasRun shelves.faults 0 (nothing_open shelves limits)
run_at_first shelves limits = record { shelves = omega arith; lanes = λ name lane given there out. absurd (nothing_there Standing empty name lane (get-empty byte_order name) there); few = λ name lane there. absurd (nothing_there Standing empty name lane (get-empty byte_order name) there) }

pub begins_at_first : (shelves : Shelving) (limits : Limits) (objects : Storing) (w : World) → IsNewDeskOf shelves objects w → WorkBegins (first_work shelves limits objects true) (begun w)
unfolding ledger
begins_at_first shelves limits objects w is =
    record {
      stands = record {
        stands = world_at_first shelves limits objects w first_is_sound is.desk;
        moment = moment_at_first shelves objects w is.desk;
        owned = is.desk.owned;
        sent = refl;
        tally = subst (λ raws. IsTally (ledger raws) (record { absorbed = 0; nacked = 0 })) (sym is.no_entry) (record { absorbed = refl; nacked = refl });
      };
      opens = inr (record {
        name = ap (λ (v : World). get v.names p) is.desk.first ∙ get-empty byte_order p;
        within = ap (λ (v : World). is_beyond v.opened work) is.desk.first;
        no_entry = is.no_entry;
      });
    }

can_at_first : (shelves : Shelving) (limits : Limits) (objects : Storing) (number clients ops : ℕ) → clients ≤ 1000 → ops ≤ 100000 → (told : Option World) → IfSome told (IsNewDeskOf shelves objects)
    → CanBegin (5 * length (acts number clients ops)) (first_work shelves limits objects (is_some told))
can_at_first shelves limits objects number clients ops c o told is = record {
  may = may told is;
  few = (0, (λ q named there. absurd (nothing_there Named empty q named (get-empty byte_order q) there), omega (arith, c, o, acts_are number clients ops)));
}
  where
    may : (told : Option World) → IfSome told (IsNewDeskOf shelves objects) → MayBegin (first_work shelves limits objects (is_some told))
    may None is good = absurd (false≢true good)
    may (Some w) is good = (begun w, begins_at_first shelves limits objects w is)

pub can_begin_as : (shelves : Shelving) (limits : Limits) (objects : Storing) (number clients ops : ℕ) → clients ≤ 1000 → ops ≤ 100000 → (told : Option World) → IfSome told (IsNewDeskOf shelves objects)
    → (s : AtWork) → IsBegun (nothing_open shelves limits) (hushed (is_some told) objects) (is_some told) s → (all : List Act) → all ≡ acts number clients ops → CanBegin (5 * length all) s
can_begin_as shelves limits objects number clients ops c o told is s begun all are =
    subst (λ s. CanBegin (5 * length all) s) (sym begun) (subst (λ all. CanBegin (5 * length all) (first_work shelves limits objects (is_some told))) (sym are) (can_at_first shelves limits objects number clients ops c o told is))

pub beginning : (number clients ops : ℕ) (all : List Act) → all ≡ acts number clients ops → IsBeginning all
beginning number clients ops all are = record { rest = joins 0 clients ++ (turns clients 1 ops number ++ gen.Finish ∷ []); is = are }

pub short_told : (objects : Storing) (told : Option World) (shelves : Shelving) → IfSome told (IsNewDeskOf shelves objects) → IfSome told (IsDeskOf shelves objects)
short_told objects None shelves is = tt
short_told objects (Some w) shelves is = is.desk

-- ---- at the end

came_stop : (before now : Outside) (stop : Stop) → HasCause before now (end_for stop) → CameBy before now (end_for stop)
came_stop before now (stop.KeeperFault note) h = h
came_stop before now (stop.StoreFault note) h = h
came_stop before now (stop.BadStored fault) h = h
came_stop before now stop.NoMemory h = h

module _ (old new : Writing) (shelves back : Shelving) (store given : Storing) where
  abbrev before : Outside
  before = outside old shelves store

  abbrev now : Outside
  now = outside new back given

  concluded_came : (e : ScriptEnd) → Concludes old new e → CameBy before now e
  concluded_came end.Done is = record { read = refl; written = is }
  concluded_came (end.BadLine number why) is = absurd is
  concluded_came end.ReadFault is = absurd is
  concluded_came end.WriteFault is = is
  concluded_came (end.KeeperFault note) is = absurd is
  concluded_came (end.StoreFault note) is = absurd is
  concluded_came (end.BadStored fault) is = absurd is
  concluded_came end.NoMemory is = record { read = refl; written = ap (λ (k : Writing). k.faults) is }

  stopped_came : FaultsAreCounted → (good : Bool) (s : AtWork) (stop : Stop) (e : ScriptEnd) → Closes s.lanes back → IsHushed given s.store → (steps : ℕ) → RunsLinking {A = Unit {0}} shelves.faults steps (hushed good store) s.store s.lanes (Err stop) → e ≡ end_for stop → new ≡ old
      → CameBy before now e
  stopped_came counted good s stop e closed hush steps runs is same =
      subst (CameBy before now) (sym is) (came_stop before now stop (stop_cause counted steps before now good s.lanes s.store stop (record { read = refl; written = ap (λ (k : Writing). k.faults) same }) closed hush runs))

  -- why it ended
  pub came_by : FaultsAreCounted → (limits : Limits) (told : Option World) (all : List Act) (first s t : AtWork) (r : Ended) (e : ScriptEnd) → IsBegun (nothing_open shelves limits) (hushed (is_some told) store) (is_some told) first
      → Opens (5 * length all) (acted_all all) first s r → t ≡ s → Closes t.lanes back → IsHushed given t.store → Finishes r old new e → CameBy before now e
  came_by counted limits told all first s t r e begun opens same closed hush ends = by r opens ends
    where
      by : (r : Ended) → Opens (5 * length all) (acted_all all) first s r → Finishes r old new e → CameBy before now e
      by (Ok done) opens ends = concluded_came e ends
      by (Err stop) opens ends =
          let run = opens.on.runs shelves.faults 0 (subst (λ (x : AtWork). HasRun shelves.faults 0 x.lanes) (sym begun) (run_at_first shelves limits)) in
          stopped_came counted (is_some told) s stop e (subst (λ (x : AtWork). Closes x.lanes back) same closed) (subst (λ (x : AtWork). IsHushed given x.store) same hush) (0 + 5 * length all)
          (subst (λ (x : AtWork). RunsLinking {A = Unit {0}} shelves.faults (0 + 5 * length all) x.store s.store s.lanes (Err stop)) begun run) ends.0 ends.1

  -- over a desk that stands for a world only what may be
  honest_stop : (limits : Limits) (w : World) (number clients ops : ℕ) (stop : Stop) → IsFair (0 + 2 * (5 * length (acts number clients ops))) w stop → new ≡ old → WritesSummary limits w number clients ops before now (end_for stop)
  honest_stop limits w number clients ops (stop.KeeperFault note) honest same = same
  honest_stop limits w number clients ops (stop.StoreFault note) honest same = same
  honest_stop limits w number clients ops (stop.BadStored (Delta n)) (name, honest) same = absurd honest
  honest_stop limits w number clients ops (stop.BadStored (Object fault)) (name, honest) same = absurd honest
  honest_stop limits w number clients ops (stop.BadStored (Lane lane.Worn)) (name, full) same = (refl, ((name, omega (arith, full, acts_are number clients ops)), same))
  honest_stop limits w number clients ops (stop.BadStored (Lane (lane.LogFailed note))) (name, honest) same = absurd honest
  honest_stop limits w number clients ops (stop.BadStored (Lane (lane.Full entries))) (name, honest) same = absurd honest
  honest_stop limits w number clients ops (stop.BadStored (Lane (lane.BadRecord place))) (name, honest) same = absurd honest
  honest_stop limits w number clients ops (stop.BadStored (Lane (lane.NoCheckpoint asked stored))) (name, honest) same = absurd honest
  honest_stop limits w number clients ops (stop.BadStored (Lane lane.CheckpointsFull)) (name, honest) same = absurd honest
  honest_stop limits w number clients ops (stop.BadStored (Lane lane.TooManyClients)) (name, honest) same = absurd honest
  honest_stop limits w number clients ops (stop.BadStored (Lane (lane.DeltaFailed note))) (name, honest) same = absurd honest
  honest_stop limits w number clients ops (stop.BadStored (Lane lane.NoMemory)) (name, honest) same = absurd honest
  honest_stop limits w number clients ops (stop.BadStored (Lane (lane.BadCheckpoint n fault))) (name, honest) same = absurd honest
  honest_stop limits w number clients ops (stop.BadStored (Lane (lane.TooLarge bytes))) (name, honest) same = absurd honest
  honest_stop limits w number clients ops stop.NoMemory honest same = same

  said_summary : DesksComeBack → (limits : Limits) (w : World) (number clients ops : ℕ) (s : AtWork) (e : ScriptEnd) → WorkGoes s (behind_all limits w number clients ops) → Closes s.lanes back → IsHushed given s.store → IsShortAsTold s.store
      → SaysAll (written_by limits w number clients ops) old new e → WritesSummary limits w number clients ops before now e
  said_summary come limits w number clients ops s end.Done goes closed hush short says = record {
    written = says;
    back =
        comes_back come s.lanes s.store (behind_all limits w number clients ops).world now closed hush short goes.stands.stands.desk goes.stands.stands.held goes.stands.owned;
  }
  said_summary come limits w number clients ops s (end.BadLine n why) goes closed hush short says = absurd says
  said_summary come limits w number clients ops s end.ReadFault goes closed hush short says = absurd says
  said_summary come limits w number clients ops s end.WriteFault goes closed hush short says = says
  said_summary come limits w number clients ops s (end.KeeperFault note) goes closed hush short says = absurd says
  said_summary come limits w number clients ops s (end.StoreFault note) goes closed hush short says = absurd says
  said_summary come limits w number clients ops s (end.BadStored fault) goes closed hush short says = absurd says
  said_summary come limits w number clients ops s end.NoMemory goes closed hush short says = says

  -- what was written
  module _ (come : DesksComeBack) (limits : Limits) (number clients ops : ℕ) (all : List Act) (are : all ≡ acts number clients ops) (first s t : AtWork) (r : Ended) (e : ScriptEnd)
      (opens : Opens (5 * length all) (acted_all all) first s r) (same : t ≡ s) (closed : Closes t.lanes back) (hush : IsHushed given t.store) (short : IsShortAsTold t.store) (ends : Finishes r old new e)
      (lines : (w : Workload) → LeadsTo w s r → FinishesBy r (written (summary w)) old new e) where
    writes_for : (w : World) (first_faults : ℕ) → first.good ≡ true → first.lanes.limits ≡ limits → WorkBegins first (begun w) → HasRun first_faults 0 first.lanes → WritesSummary limits w number clients ops before now e
    writes_for w first_faults good limited begins run = by r refl led
      where
        led : LeadsTo (behind_all limits w number clients ops) s r
        led = subst (λ acts. LeadsTo (behind_acts limits (begun w) acts) s r) are (subst (λ l. LeadsTo (behind_acts l (begun w) all) s r) limited (opens.leads (begun w) good begins))

        -- where it stopped, behind no step, in all of them
        worn : (x : Ended) → r ≡ x → WearsBy 0 (5 * length (acts number clients ops)) w (acted_all all first.lanes.limits (begun w)).world x
        worn x is =
            subst (WearsBy 0 (5 * length (acts number clients ops)) w (acted_all all first.lanes.limits (begun w)).world) is
            (subst (λ (acts : List Act). WearsBy 0 (5 * length acts) w (acted_all all first.lanes.limits (begun w)).world r) are (opens.wears (begun w) first_faults 0 good begins run))

        by : (x : Ended) → r ≡ x → LeadsTo (behind_all limits w number clients ops) s r → WritesSummary limits w number clients ops before now e
        by (Ok done) is leads =
            said_summary come limits w number clients ops s e (subst (LeadsTo (behind_all limits w number clients ops) s) is leads) (subst (λ (x : AtWork). Closes x.lanes back) same closed)
            (subst (λ (x : AtWork). IsHushed given x.store) same hush) (subst (λ (x : AtWork). IsShortAsTold x.store) same short)
            (subst (λ x. FinishesBy x (written (summary (behind_all limits w number clients ops))) old new e) is (lines (behind_all limits w number clients ops) leads))
        by (Err stop) is leads =
            let stopped = subst (λ x. Finishes x old new e) is ends in
            subst (WritesSummary limits w number clients ops before now) (sym stopped.0) (honest_stop limits w number clients ops stop (worn (Err stop) is) stopped.1)

    pub writes_told : (told : Option World) → IfSome told (IsNewDeskOf shelves store) → IsBegun (nothing_open shelves limits) (hushed (is_some told) store) (is_some told) first
        → IfSome told (λ w. WritesSummary limits w number clients ops before now e)
    writes_told None is begun_is = tt
    writes_told (Some w) is begun_is =
        writes_for w shelves.faults (ap (λ (x : AtWork). x.good) begun_is) (ap (λ (x : AtWork). x.lanes.limits) begun_is) (subst (λ x. WorkBegins x (begun w)) (sym begun_is) (begins_at_first shelves limits store w is))
        (subst (λ (x : AtWork). HasRun shelves.faults 0 x.lanes) (sym begun_is) (run_at_first shelves limits))
