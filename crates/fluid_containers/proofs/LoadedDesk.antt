-- A load, on a desk, and what a container shows.
use Rattle.std.proofs.Common.{◌≡◌, ℕ, Bool, true, false, if◌then◌else◌, List, [], ◌∷◌, Some, None, Result, Ok, Err, refl, sym, ap, subst, ◌∙◌}
use Rattle.std.specs.Prelude.{is_some, option_and_then}
use Rattle.std.specs.FinMap.{get, insert}
use Rattle.fluid_table.proofs.Places.{get_own}
use Rattle.fluid_rules.specs.declared.limits.Limits.{Limits}
use Rattle.fluid_edits.specs.Replay.{replay_edits}
use Rattle.fluid_runtime.specs.Shown.{shown}
use Rattle.fluid_store.specs.Storing.{Storing}
use Rattle.fluid_lane.specs.Standing.{Standing}
use Rattle.fluid_lanes.specs.Opened.{Opened, with_lane}
use Rattle.fluid_lanes.specs.Using.{Uses, IsOneTooMany}
use Rattle.fluid_loader.specs.Calls.{shown_channels}
use Rattle.fluid_loader.specs.declared.link.Pick.{Pick}
use Rattle.fluid_voice.specs.declared.refusals.ConnectRefusal.TheVariants.{TooManyDocuments}
use Rattle.fluid_voice.specs.Ends.{is_beyond}
use Rattle.fluid_steps.specs.declared.steps.Step.TheVariants as step
use Rattle.fluid_transcript.specs.World.{World, Container, Effect, container, used_up, document, is_open, ledger_of, grown, changed, says, does, Told}
use Rattle.fluid_transcript.specs.Lines as lines
use Rattle.fluid_transcript.specs.Sound.{IsSound, ledger_in}
use Rattle.fluid_transcript.specs.Containers as steps
use Rattle.fluid_transcript.specs.Containers.{Loading, turned_away, no_summary, bad_summary, loaded, loading, load_beyond, name_for, showing, visible}
use Rattle.fluid_transcript.specs.Steps.{shown_in, on_container}
use Rattle.fluid_transcript.specs.Transcript.{done, done_in, readied, last_pick, shown_at_end, end_effect, loaded_last_in}
use Rattle.fluid_desk.specs.declared.stop.Stop.{Stop}
use Rattle.fluid_desk.specs.Stands.{IsLaneOf, DeskStands, StoreStands}
use Rattle.fluid_desk.specs.Stopping.{MayStop}
use Rattle.fluid_desk.specs.Acting.{IsLine, DeskDoes, IsUnready}
use Rattle.fluid_desk.specs.Scribing.{DeskDoesWith}
use Rattle.fluid_desk.proofs.Desks.{acts, stays_desk}
use Rattle.fluid_desk.proofs.Honest.{may_want, may_act, may_more}
use Rattle.fluid_desk.proofs.Doing.{done_within, done_beyond, lane_of_desk, left_same, readied_moment}
use Rattle.fluid_desk.proofs.Laned.{same as same_lane}
use Rattle.fluid_desk.proofs.Opening.{opened_world, uses, too_many, readied_same}
use Rattle.fluid_callers.proofs.Departing.{open_lane}
use Rattle.fluid_containers.specs.declared.holder.Holder.{Holder}
use Rattle.fluid_containers.specs.declared.loading.Loaded.{Loaded}
use Rattle.fluid_containers.specs.declared.loading.Loaded.TheVariants as made
use Rattle.fluid_containers.specs.Holders.{IsHolderIn, IsHolderOf}
use Rattle.fluid_containers.specs.Joining.{joined_to}
use Rattle.fluid_containers.specs.Loading.{Becomes, LaneLoadsAs, LaneEndsIn, IsTurnedAway, end_line}
use Rattle.fluid_containers.specs.Stepping.{IsLoaded, LoadDoes}
use Rattle.fluid_containers.proofs.Loads.{loaded_name}
use Rattle.fluid_containers.proofs.OnDesk.{opened_step, sound_container, document_then}

-- ---- a load

-- a first use leaves the store
readied_store : (w : World) (name : List ℕ) → (readied w name).store ≡ w.store
readied_store w name = by (is_open w name)
  where
    by : (b : Bool) → (if b then w else opened_world w name).store ≡ w.store
    by true = refl
    by false = refl

abbrev load_effect : Limits → World → (p name : List ℕ) → Pick → Effect
load_effect limits w p name pick = steps.load limits w (document w name) p name pick

-- the name then
loaded_names : (limits : Limits) (w : World) (p name : List ℕ) (pick : Pick) (load : Loading) (result : Loaded) → loading limits w (document w name) name pick ≡ load
    → Becomes (ledger_of (joined_to limits w (document w name))) w.store load result → get (insert w.names p (name_for load)) p ≡ Some (name_for load) → IsLoaded (changed (load_effect limits w p name pick) (Some name) w) p result
loaded_names limits w p name pick (loaded k) (made.Held h) is becomes own =
    (k, (sym_name own, holder))
  where
    sym_name : get (insert w.names p (name_for (loaded k))) p ≡ Some (name_for (loaded k)) → get (insert w.names p (name_for (loading limits w (document w name) name pick))) p ≡ Some (container k)
    sym_name own = ap (λ x. get (insert w.names p (name_for x)) p) is ∙ own

    document_is : document (changed (load_effect limits w p name pick) (Some name) w) k.document ≡ joined_to limits w (document w name)
    document_is = ap (document (changed (load_effect limits w p name pick) (Some name) w)) (loaded_name limits w (document w name) name pick k is) ∙ document_then w (load_effect limits w p name pick) name

    holder : IsHolderOf (changed (load_effect limits w p name pick) (Some name) w) h k
    holder = subst (λ d. IsHolderIn (ledger_of d) w.store h k) (sym document_is) becomes
loaded_names limits w p name pick (turned_away r) (made.TurnedAway s) is becomes own = ap (λ x. get (insert w.names p (name_for x)) p) is ∙ own
loaded_names limits w p name pick no_summary made.NoSummary is becomes own = ap (λ x. get (insert w.names p (name_for x)) p) is ∙ own
loaded_names limits w p name pick (bad_summary path) (made.BadSummary told) is becomes own = ap (λ x. get (insert w.names p (name_for x)) p) is ∙ own
loaded_names limits w p name pick (loaded k) (made.TurnedAway s) is becomes own = absurd becomes
loaded_names limits w p name pick (loaded k) made.NoSummary is becomes own = absurd becomes
loaded_names limits w p name pick (loaded k) (made.BadSummary told) is becomes own = absurd becomes
loaded_names limits w p name pick (turned_away r) (made.Held h) is becomes own = absurd becomes
loaded_names limits w p name pick (turned_away r) made.NoSummary is becomes own = absurd becomes
loaded_names limits w p name pick (turned_away r) (made.BadSummary told) is becomes own = absurd becomes
loaded_names limits w p name pick no_summary (made.Held h) is becomes own = absurd becomes
loaded_names limits w p name pick no_summary (made.TurnedAway s) is becomes own = absurd becomes
loaded_names limits w p name pick no_summary (made.BadSummary told) is becomes own = absurd becomes
loaded_names limits w p name pick (bad_summary path) (made.Held h) is becomes own = absurd becomes
loaded_names limits w p name pick (bad_summary path) (made.TurnedAway s) is becomes own = absurd becomes
loaded_names limits w p name pick (bad_summary path) made.NoSummary is becomes own = absurd becomes

module _ (old mid : Opened) (w : World) (name : List ℕ) (moment : ℕ) (one other : Standing) (before now : Storing) (desk : DeskStands old w) (store : StoreStands before w) (at : w.moment ≡ moment)
    (used : Uses {A = Unit {0}} name moment old mid (Ok tt)) (same : mid.limits ≡ old.limits) (there : get mid.lanes name ≡ Some one) where
  abbrev v : World
  v = readied w name

  ready : DeskStands mid v
  ready = (uses old mid w name moment desk at used).stands

  within : is_beyond w.opened name ≡ false
  within = (uses old mid w name moment desk at used).within

  own : (is_open v name ≡ true) × IsLaneOf old.limits one (document v name)
  own =
      let lane = lane_of_desk mid v name one ready there in
      (lane.0, subst (λ l. IsLaneOf l one (document v name)) same lane.1)

  store_stands : StoreStands before v
  store_stands = store ∙ ap Some (sym (readied_store w name))

  stands_then : (e : Effect) → IsLaneOf old.limits other (grown e (document v name)) → DeskStands (with_lane mid name other) (changed e (Some name) v)
  stands_then e of = acts mid v name other e ready (ap is_some there) own.0 (subst (λ l. IsLaneOf l other (grown e (document v name))) (sym same) of)

  pub loads_on : (p : List ℕ) (pick : Pick) (result : Result (List ℕ × Loaded) Stop)
      → ((u : World) → u.moment ≡ moment → IsLaneOf old.limits one (document u name) → StoreStands before u → LaneLoadsAs old.limits u (document u name) p name pick other now result)
      → LoadDoes (done old.limits w (step.Load p name pick)) p (with_lane mid name other) now result
  loads_on p pick result does_it =
      subst (λ t. LoadDoes t p (with_lane mid name other) now result) (sym (done_within old.limits w name (step.Load p name pick) refl within))
      (by result (does_it v (readied_moment w name ∙ at) own.1 store_stands))
    where
      by : (r : Result (List ℕ × Loaded) Stop) → LaneLoadsAs old.limits v (document v name) p name pick other now r → LoadDoes (done_in old.limits v name (step.Load p name pick)) p (with_lane mid name other) now r
      by (Ok made) did = record {
        stands = stands_then (load_effect old.limits v p name pick) did.loaded_is.stands;
        held = did.loaded_is.held;
        name = loaded_names old.limits v p name pick (loading old.limits v (document v name) name pick) made.1 refl did.loaded_is.becomes (get_own v.names p (name_for (loading old.limits v (document v name) name pick)));
        says = ap (λ t. t ∷ []) (sym did.says);
      }
      by (Err stop) did = may_act v mid name other (load_effect old.limits v p name pick) stop did

  -- ---- the last container

  end_is : (load : Loading) → end_line (ledger_of (joined_to old.limits v (document v name))) name load ≡ shown_at_end old.limits v (document v name) name load
  end_is (turned_away r) = refl
  end_is no_summary = refl
  end_is (bad_summary path) = refl
  end_is (loaded k) = refl

  last_is : loaded_last_in old.limits w name ≡ does (end_effect old.limits v name) (Some name) v
  last_is = ap (λ b. if b then does (says w (lines.turned_away_line name TooManyDocuments ∷ [])) None w else does (end_effect old.limits v name) (Some name) v) within

  pub ends_on : (result : Result (List ℕ) Stop)
      → ((u : World) → u.moment ≡ moment → IsLaneOf old.limits one (document u name) → StoreStands before u → LaneEndsIn old.limits u (document u name) name (last_pick (document u name)) other now result)
      → DeskDoesWith (loaded_last_in old.limits w name) (with_lane mid name other) now result
  ends_on result does_it =
      subst (λ t. DeskDoesWith t (with_lane mid name other) now result) (sym last_is) (by result (does_it v (readied_moment w name ∙ at) own.1 store_stands))
    where
      by : (r : Result (List ℕ) Stop) → LaneEndsIn old.limits v (document v name) name (last_pick (document v name)) other now r → DeskDoesWith (does (end_effect old.limits v name) (Some name) v) (with_lane mid name other) now r
      by (Ok line) did = record {
        done = record {
          stands = stands_then (end_effect old.limits v name) did.stands;
          says = ap (λ t. t ∷ []) (sym (did.says ∙ end_is (loading old.limits v (document v name) name (last_pick (document v name)))));
        };
        held = did.held;
      }
      by (Err stop) did = may_act v mid name other (end_effect old.limits v name) stop did

-- ---- as many documents are open as may be

module _ (old new : Opened) (w : World) (name : List ℕ) (count : ℕ) (store : Storing) (desk : DeskStands old w) (held : StoreStands store w) (many : IsOneTooMany name old new count) where
  pub loads_away : (p : List ℕ) (pick : Pick) (result : Result (List ℕ × Loaded) Stop) → IsTurnedAway p result → LoadDoes (done old.limits w (step.Load p name pick)) p new store result
  loads_away p pick result turned =
      let beyond_is = too_many old new w name count desk many in
      subst (λ t. LoadDoes t p new store result) (sym (done_beyond old.limits w name (step.Load p name pick) refl beyond_is.0)) (by beyond_is.1 result turned)
    where
      by : DeskStands new w → (r : Result (List ℕ × Loaded) Stop) → IsTurnedAway p r → LoadDoes (does (load_beyond w p) None w) p new store r
      by stands (Ok made) turned = record {
        stands = stays_desk new w (load_beyond w p) stands;
        held = held;
        name = subst (IsLoaded (changed (load_beyond w p) None w) p) (sym turned.1) (get_own w.names p used_up);
        says = ap (λ t. t ∷ []) (sym turned.0);
      }
      by stands (Err stop) turned = may_want (changed (load_beyond w p) None w) new stop turned

  pub ends_away : (result : Result (List ℕ) Stop) → IsLine (lines.turned_away_line name TooManyDocuments) result → DeskDoesWith (loaded_last_in old.limits w name) new store result
  ends_away result line =
      let beyond_is = too_many old new w name count desk many in
      subst (λ t. DeskDoesWith t new store result)
      (sym (ap (λ b. if b then does (says w (lines.turned_away_line name TooManyDocuments ∷ [])) None w else does (end_effect old.limits (readied w name) name) (Some name) (readied w name)) beyond_is.0))
      (by beyond_is.1 result line)
    where
      by : DeskStands new w → (r : Result (List ℕ) Stop) → IsLine (lines.turned_away_line name TooManyDocuments) r → DeskDoesWith (does (says w (lines.turned_away_line name TooManyDocuments ∷ [])) None w) new store r
      by stands (Ok text) line = record {
        done = record { stands = stays_desk new w (says w (lines.turned_away_line name TooManyDocuments ∷ [])) stands; says = ap (λ t. t ∷ []) (sym line) };
        held = held;
      }
      by stands (Err stop) line = may_want (changed (says w (lines.turned_away_line name TooManyDocuments ∷ [])) None w) new stop line

-- its document wasn't opened
pub unended : (limits : Limits) (o : Opened) (w : World) (name : List ℕ) (stop : Stop) → IsUnready w name o stop → MayStop (loaded_last_in limits w name).world o stop
unended limits o w name stop unready =
    subst (λ (t : Told). MayStop t.world o stop)
    (sym (ap (λ b. if b then does (says w (lines.turned_away_line name TooManyDocuments ∷ [])) None w else does (end_effect limits (readied w name) name) (Some name) (readied w name)) unready.within))
    (may_more (readied w name) o (end_effect limits (readied w name) name) name stop unready.may)

-- ---- what a container shows

pub shows_on : (old mid : Opened) (w : World) (p name : List ℕ) (moment : ℕ) (k : Container) (h : Holder) (result : Result (List ℕ) Stop) → DeskStands old w → IsSound w → w.moment ≡ moment → get w.names p ≡ Some (container k)
    → IsHolderOf w h k → name ≡ h.document → Uses {A = Unit {0}} name moment old mid (Ok tt) → mid.limits ≡ old.limits → IsLine (lines.shown_line p h.container.number (shown (shown_channels h.container))) result
    → DeskDoes (done old.limits w (step.Show p)) mid result
shows_on old mid w p name moment k h result desk sound at named holder own used same line =
    let of_name : name ≡ k.document = own ∙ holder.document in
    let opened : is_open w name ≡ true = ap (is_open w) of_name ∙ (sound_container w p k sound named).open_is in
    let stands : DeskStands mid w = subst (DeskStands mid) (readied_same w name opened) (uses old mid w name moment desk at used).stands in
    let lane = open_lane mid w name stands opened in
    let of = (lane_of_desk mid w name lane.0 stands lane.1).1 in
    let e : Effect = showing w (document w name) p k in
    let left : DeskStands mid (changed e (Some name) w) =
    subst (λ n. DeskStands n (changed e (Some name) w)) (left_same mid name lane.0 lane.1) (acts mid w name lane.0 e stands (ap is_some lane.1) opened (same_lane mid.limits lane.0 (document w name) of)) in
    let about_is = ap (λ n. option_and_then (λ (c : Container). Some c.document) (shown_in n)) named ∙ ap Some (sym of_name) in
    let effect_is : done old.limits w (step.Show p) ≡ does e (Some name) w =
    opened_step old.limits w name (step.Show p) about_is opened ∙ ap (λ n. does (on_container w (shown_in n) (showing w (document w name) p)) (Some name) w) named in
    let line_is : lines.shown_line p h.container.number (shown (shown_channels h.container)) ≡ lines.shown_line p k.number (shown (visible (ledger_of (document w name)) k)) =
    ap (λ n. lines.shown_line p n (shown (shown_channels h.container))) holder.container.number
    ∙ ap (λ c. lines.shown_line p k.number (shown (replay_edits c h.container.pending))) holder.container.channels_are
    ∙ ap (λ pending. lines.shown_line p k.number (shown (replay_edits (steps.channels (ledger_in w k.document) k) pending))) holder.container.pending
    ∙ ap (λ n. lines.shown_line p k.number (shown (visible (ledger_in w n) k))) (sym of_name) in
    subst (λ t. DeskDoes t mid result) (sym effect_is) (by left line_is result line)
  where
    by : DeskStands mid (changed (showing w (document w name) p k) (Some name) w)
        → lines.shown_line p h.container.number (shown (shown_channels h.container)) ≡ lines.shown_line p k.number (shown (visible (ledger_of (document w name)) k)) → (r : Result (List ℕ) Stop)
        → IsLine (lines.shown_line p h.container.number (shown (shown_channels h.container))) r → DeskDoes (does (showing w (document w name) p k) (Some name) w) mid r
    by left line_is (Ok text) line = record { stands = left; says = ap (λ t. t ∷ []) (sym (line ∙ line_is)) }
    by left line_is (Err stop) line = may_want (changed (showing w (document w name) p k) (Some name) w) mid stop line
