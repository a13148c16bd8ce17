-- The step that closes a document and opens it again.
use Rattle.std.proofs.Common.{◌≡◌, ℕ, arith, List, [], ◌∷◌, ◌++◌, length, map, Option, Some, None, Result, Ok, Err, refl, sym, ap, subst, ◌∙◌}
use Rattle.std.specs.Prelude.{IsSome, is_some, IfErr}
use Rattle.std.specs.FinMap.{get, keys}
use Rattle.fluid_types.specs.declared.entries.Raw.TheVariants.{Leave}
use Rattle.fluid_rules.specs.Rules.{joined}
use Rattle.fluid_document.specs.Laws.{KeptIsLoaded, CheckpointIsLoaded}
use Rattle.fluid_lane.specs.Standing.{Standing}
use Rattle.fluid_opening.specs.declared.fault.DoorFault.{DoorFault}
use Rattle.fluid_opening.specs.declared.fault.DoorFault.TheVariants as door
use Rattle.fluid_lanes.specs.Opened.{Opened, with_lane}
use Rattle.fluid_lanes.specs.Using.{Uses, UsesBy, OpensNew, IsOneTooMany, Ends, EndsLane, Reopens}
use Rattle.fluid_lanes.proofs.Openings.{is_used}
use Rattle.fluid_voice.specs.declared.refusals.ConnectRefusal.TheVariants.{TooManyDocuments}
use Rattle.fluid_steps.specs.declared.steps.Step.TheVariants as step
use Rattle.fluid_transcript.specs.World.{Document, World, document, ledger_of, farewells, grown, changed, Told, does}
use Rattle.fluid_transcript.specs.Documents.{reopened}
use Rattle.fluid_transcript.specs.Lines as lines
use Rattle.fluid_transcript.specs.Transcript.{readied, done_in, done}
use Rattle.fluid_desk.specs.declared.stop.Stop.{Stop}
use Rattle.fluid_desk.specs.Stands.{IsLaneOf, DeskStands}
use Rattle.fluid_desk.specs.Stopping.{turned_by, IsHonest, steps_in, MayStop, HasRun, RunsOn}
use Rattle.fluid_desk.specs.Acting.{IsLine, DeskDoes}
use Rattle.fluid_desk.proofs.Laned.{says as lane_of, same}
use Rattle.fluid_desk.proofs.Desks.{acts}
use Rattle.fluid_table.proofs.Places.{get_own}
use Rattle.fluid_desk.proofs.Opening.{opens_new, new_is_no_more, open_is_no_more, readied_same, opened_steps, unopened_honest, ready_honest, ready_many, kept_ended, room_again, absent_then, lane_again, again_stands, lane_there_again}
use Rattle.fluid_desk.proofs.Honest.{grown_there, honest_more, may_want}
use Rattle.fluid_desk.proofs.Doing.{lane_of_desk, done_within, may_unready, left_same, steps_away}
use Rattle.fluid_desk.proofs.Running.{use_run, end_run, unopened_runs}

-- ---- what is written of it

-- the desk stands for the world behind the step, whose line was written if there was memory for it
finished : (n : Opened) (v : World) (name : List ℕ) (t : Told) (result : Result (List ℕ) Stop) → t ≡ does (reopened v (document v name) name) (Some name) v
    → DeskStands n (changed (reopened v (document v name) name) (Some name) v) → IsLine (lines.reopened_line name (ledger_of (grown (reopened v (document v name) name) (document v name)))) result → DeskDoes t n result
finished n v name t result is stands line = subst (λ t. DeskDoes t n result) (sym is) (by result line)
  where
    by : (r : Result (List ℕ) Stop) → IsLine (lines.reopened_line name (ledger_of (grown (reopened v (document v name) name) (document v name)))) r
        → DeskDoes (does (reopened v (document v name) name) (Some name) v) n r
    by (Ok text) line = record { stands = stands; says = ap (λ l. l ∷ []) (sym line) }
    by (Err stop) line = may_want (changed (reopened v (document v name) name) (Some name) v) n stop line

some_same : (a b : Standing) → ◌≡◌ {A = Option Standing} (Some a) (Some b) → a ≡ b
some_same a b same = cc

opens_by : (o n : Opened) (name : List ℕ) (moment : ℕ) → get o.lanes name ≡ None → UsesBy (get o.lanes name) name moment o n → OpensNew name moment o n
opens_by o n name moment none used = subst (λ l. UsesBy l name moment o n) none used

module _ (o n : Opened) (w : World) (name : List ℕ) (moment : ℕ) (now : Standing) (result : Result (List ℕ) Stop) (desk : DeskStands o w) (at : w.moment ≡ moment) (there_now : get n.lanes name ≡ Some now)
    (line : (d : Document) → IsLaneOf o.limits now d → IsLine (lines.reopened_line name (ledger_of d)) result) where
  -- ---- a document that was open
  was_open : (closed : Opened) (lane : Standing) → get o.lanes name ≡ Some lane → EndsLane name lane o closed → OpensNew name moment closed n → DeskDoes (done o.limits w (step.Reopen name)) n result
  was_open closed lane there ended opens =
      let own = lane_of_desk o w name lane desk there in
      let of = lane_again o closed w name lane desk there ended n moment at opens in
      let now_is : opens.lane ≡ now = some_same opens.lane now (sym (lane_there_again o closed w name lane desk there ended n moment at opens) ∙ there_now) in
      finished n w name (done o.limits w (step.Reopen name)) result
      (done_within o.limits w name (step.Reopen name) refl (open_is_no_more w name own.0) ∙ ap (λ v. done_in o.limits v name (step.Reopen name)) (readied_same w name own.0))
      (again_stands o closed w name lane desk there ended n moment at opens)
      (line (grown (reopened w (document w name) name) (document w name)) (subst (λ s. IsLaneOf o.limits s (grown (reopened w (document w name) name) (document w name))) now_is of))

  -- ---- one that wasn't
  was_closed : get o.lanes name ≡ None → OpensNew name moment o n → DeskDoes (done o.limits w (step.Reopen name)) n result
  was_closed absent opens =
      let v = readied w name in
      let d = document v name in
      let e = reopened v d name in
      let stands : DeskStands n v = opens_new o n w name moment desk at absent opens in
      let lane_is : opens.lane ≡ now = some_same opens.lane now (sym (ap (λ lanes. get lanes name) opens.lanes ∙ get_own o.lanes name opens.lane) ∙ there_now) in
      let own = lane_of_desk n v name now stands there_now in
      let nobody : joined (ledger_of d) ≡ [] = sym (lane_of n.limits now d own.1).clients ∙ ap (λ (s : Standing). keys s.entries.state.sequencer.rows) (sym lane_is) ∙ opens.opens.starts.fresh.nobody in
      let none : farewells v.moment d ≡ [] = ap (map (λ id. Leave id v.moment)) nobody in
      let of : IsLaneOf n.limits now (grown e d) =
      subst (λ entries. IsLaneOf n.limits now (record { raws = d.raws ++ entries; checkpoints = d.checkpoints ++ [] })) (sym none) (same n.limits now d own.1) in
      finished n v name (done o.limits w (step.Reopen name)) result
      (done_within o.limits w name (step.Reopen name) refl (new_is_no_more o n w name moment desk at absent opens))
      (subst (λ k. DeskStands k (changed e (Some name) v)) (left_same n name now there_now) (acts n v name now e stands (ap is_some there_now) own.0 of))
      (line (grown e d) (subst (λ limits. IsLaneOf limits now (grown e d)) opens.limits of))

  by_lane : (closed : Opened) (l : Option Standing) → get o.lanes name ≡ l → Ends name l o closed → UsesBy (get closed.lanes name) name moment closed n → DeskDoes (done o.limits w (step.Reopen name)) n result
  by_lane closed None absent same used = was_closed absent (opens_by o n name moment absent (subst (λ k. UsesBy (get k.lanes name) name moment k n) same used))
  by_lane closed (Some lane) there ended used = was_open closed lane there ended (opens_by closed n name moment (absent_then o closed w name lane desk there ended) used)

  pub reopens : {A : Type 0} (done_it : A) → Reopens name moment o n (Ok done_it) → DeskDoes (done o.limits w (step.Reopen name)) (with_lane n name now) result
  reopens done_it does_it =
      subst (λ k. DeskDoes (done o.limits w (step.Reopen name)) k result) (sym (left_same n name now there_now))
      (by_lane does_it.closed (get o.lanes name) refl does_it.ends does_it.uses)

-- ---- it wasn't opened

-- what a use is for, whatever it answers
uses_any : (A : Type 0) (name : List ℕ) (moment : ℕ) (o n : Opened) (f : DoorFault) → Uses {A = A} name moment o n (Err f) → Uses {A = Unit {0}} name moment o n (Err f)
uses_any A name moment o n (door.ShelfFailed note) u = u
uses_any A name moment o n (door.Lane f) u = u
uses_any A name moment o n (door.TooManyDocuments count) u = u
uses_any A name moment o n door.NoMemory u = u

module _ (o n : Opened) (w : World) (name : List ℕ) (moment : ℕ) (desk : DeskStands o w) where
  away_by : (closed : Opened) (l : Option Standing) (count : ℕ) → get o.lanes name ≡ l → Ends name l o closed → IsOneTooMany name closed n count → IsOneTooMany name o n count
  away_by closed None count absent same many = subst (λ k. IsOneTooMany name k n count) same many
  away_by closed (Some lane) count there ended many = absurd (room_again o closed w name lane desk there ended n count many)

  pub reopens_away : {A : Type 0} (fault : DoorFault) (result : Result (List ℕ) Stop) → Reopens {A = A} name moment o n (Err fault) → (done_it : Unit {0}) → Ok done_it ≡ turned_by fault → IsLine (lines.turned_away_line name TooManyDocuments) result
      → DeskDoes (done o.limits w (step.Reopen name)) n result
  reopens_away {A = A} fault result does_it done_it is line =
      let many = ready_many does_it.closed n name moment fault (uses_any A name moment does_it.closed n fault does_it.uses) done_it is in
      steps_away o n w name (step.Reopen name) many.0 result desk refl refl (away_by does_it.closed (get o.lanes name) many.0 refl does_it.ends many.1) line

  -- one that was open is closed in between
  may_again : (stop : Stop) → IsHonest (opened_steps w.moment (document w name)) stop → MayStop (changed (reopened w (document w name) name) (Some name) w) n stop
  may_again stop h =
      let e = reopened w (document w name) name in
      (name, honest_more (opened_steps w.moment (document w name)) (steps_in (changed e (Some name) w) n name) stop (omega (arith, ap (λ (d : Document). length d.raws) (grown_there w name e))) h)

  reopens_by : KeptIsLoaded → CheckpointIsLoaded → (fault : DoorFault) (stop : Stop) (closed : Opened) (l : Option Standing) → get o.lanes name ≡ l → Ends name l o closed → Uses {A = Unit {0}} name moment closed n (Err fault)
      → Err stop ≡ turned_by fault → MayStop (done o.limits w (step.Reopen name)).world n stop
  reopens_by first law fault stop closed None absent same uses is =
      may_unready o.limits w name n (step.Reopen name) stop refl (ready_honest first law closed n w name moment fault stop uses (subst (λ k. DeskStands k w) (sym same) desk) is)
  reopens_by first law fault stop closed (Some lane) there ended uses is =
      let own = (lane_of_desk o w name lane desk there).0 in
      subst (λ (t : Told). MayStop t.world n stop)
      (sym (done_within o.limits w name (step.Reopen name) refl (open_is_no_more w name own) ∙ ap (λ v. done_in o.limits v name (step.Reopen name)) (readied_same w name own)))
      (may_again stop
      (subst (λ r. IfErr r (IsHonest (opened_steps w.moment (document w name)))) (sym is)
      (unopened_honest first law closed n name moment w.moment fault (document w name) (kept_ended o closed w name lane desk there ended) uses)))

  pub reopens_honest : {A : Type 0} → KeptIsLoaded → CheckpointIsLoaded → (fault : DoorFault) (stop : Stop) → Reopens {A = A} name moment o n (Err fault) → Err stop ≡ turned_by fault → MayStop (done o.limits w (step.Reopen name)).world n stop
  reopens_honest {A = A} first law fault stop does_it is =
      reopens_by first law fault stop does_it.closed (get o.lanes name) refl does_it.ends (uses_any A name moment does_it.closed n fault does_it.uses) is

-- ---- what is open then

pub reopened_there : {A : Type 0} (o n : Opened) (name : List ℕ) (moment : ℕ) (done_it : A) → Reopens name moment o n (Ok done_it) → IsSome (get n.lanes name)
reopened_there o n name moment done_it does_it = is_used name moment does_it.closed n does_it.uses

-- ---- counts of faults

module _ (before steps : ℕ) (o n : Opened) (name : List ℕ) (moment : ℕ) (run : HasRun before steps o) where
  pub reopen_run : {A : Type 0} (done_it : A) → Reopens name moment o n (Ok done_it) → HasRun before steps n
  reopen_run done_it does_it = use_run before steps does_it.closed n name moment (end_run before steps o does_it.closed name run (get o.lanes name) does_it.ends) does_it.uses

  pub unreopened_runs : {A : Type 0} (fault : DoorFault) → Reopens {A = A} name moment o n (Err fault) → RunsOn before steps n (turned_by fault)
  unreopened_runs {A = A} fault does_it =
      unopened_runs before steps does_it.closed n name moment (end_run before steps o does_it.closed name run (get o.lanes name) does_it.ends) fault (uses_any A name moment does_it.closed n fault does_it.uses)
