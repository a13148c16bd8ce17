-- A step of a roamer, on a desk: what it does on the lane of its document is what the world's table says.
use Rattle.std.proofs.Common.{◌≡◌, inl, inr, ℕ, ◌+◌, true, List, [], ◌∷◌, ◌++◌, Option, Some, None, Result, Ok, Err, refl, sym, ap, subst, ◌∙◌, append-nil}
use Rattle.std.specs.Prelude.{is_some, option_and_then, IfSome}
use Rattle.std.specs.FinMap.{get}
use Rattle.fluid_table.proofs.Places.{get_own}
use Rattle.fluid_rules.specs.Rules.{ledger as ledger_by_rules}
use Rattle.fluid_rules.specs.declared.limits.Limits.{Limits}
use Rattle.fluid_edits.specs.Replay.{replay_edits}
use Rattle.fluid_runtime.specs.Shown.{shown}
use Rattle.fluid_lane.specs.Standing.{Standing}
use Rattle.fluid_lanes.specs.Opened.{Opened, with_lane}
use Rattle.fluid_lanes.specs.Using.{Uses, IsOneTooMany}
use Rattle.fluid_steps.specs.declared.steps.Step.{Step}
use Rattle.fluid_steps.specs.declared.steps.Step.TheVariants as step
use Rattle.fluid_transcript.specs.World.{World, Document, Container, Roamer as ARoamer, Effect, Name, roamer, used_up, document, is_open, ledger_of, grown, changed, does, says, with_name}
use Rattle.fluid_transcript.specs.Lines as lines
use Rattle.fluid_transcript.specs.Containers.{channels, visible, showing, load_beyond}
use Rattle.fluid_transcript.specs.Roamers.{roamed, lost}
use Rattle.fluid_transcript.specs.Sound.{IsSound, IsSoundName, IsSoundContainer, ledger_in}
use Rattle.fluid_transcript.specs.Steps.{about, effect, roamer_in, shown_in, on_roamer, on_container}
use Rattle.fluid_transcript.specs.Transcript.{done, done_in, readied}
use Rattle.fluid_holding.specs.Laws.{Stands}
use Rattle.fluid_desk.specs.declared.stop.Stop.{Stop}
use Rattle.fluid_desk.specs.Acting.{IsLine, DeskDoes, IsUnready}
use Rattle.fluid_desk.specs.Stands.{IsLaneOf, DeskStands}
use Rattle.fluid_desk.specs.Stopping.{MayStop}
use Rattle.fluid_desk.proofs.Desks.{acts, stays_desk}
use Rattle.fluid_desk.proofs.Honest.{may_act, may_want}
use Rattle.fluid_desk.proofs.Doing.{done_within, done_beyond, lane_of_desk, left_same, may_unready, readied_moment}
use Rattle.fluid_desk.proofs.Laned.{same as same_lane}
use Rattle.fluid_desk.proofs.Opening.{uses, too_many, readied_same}
use Rattle.fluid_callers.proofs.Departing.{never_beyond, open_lane}
use Rattle.fluid_containers.proofs.OnDesk.{stands_in, document_then, opened_step, mid_stands, own_lane}
use Rattle.fluid_roamers.specs.Roaming.{IsRoamerIn, IsRoamerOf}
use Rattle.fluid_roamers.specs.Stepping.{NamedBy, LaneSteps, BeginsAs, LaneRoams, IsTurnedAway, StepDoes, IsNamedIn, RoamDoes}
use Rattle.fluid_roamers.specs.declared.roamer.Roamer.{Roamer}

-- ---- names

sound_of : (w : World) (n : Option Name) (k : ARoamer) → n ≡ Some (roamer k) → IfSome n (IsSoundName w) → IsSoundContainer w k.client
sound_of w n k is sound = (subst (λ o. IfSome o (IsSoundName w)) is sound).client

pub sound_client : (w : World) (r : List ℕ) (k : ARoamer) → IsSound w → get w.names r ≡ Some (roamer k) → IsSoundContainer w k.client
sound_client w r k sound named = sound_of w (get w.names r) k named (sound.names r)

named_then : (w : World) (e : Effect) (r : List ℕ) (k now : ARoamer) → get w.names r ≡ Some (roamer k) → NamedBy e r k now → get (with_name e.name w.names) r ≡ Some (roamer now)
named_then w e r k now named (inl is) = ap (λ n. get (with_name n w.names) r) is ∙ get_own w.names r (roamer now)
named_then w e r k now named (inr (none, same)) = ap (λ n. get (with_name n w.names) r) none ∙ named ∙ ap (λ c. Some (roamer c)) (sym same)

-- ---- the step

-- by its effect in the world
pub step_on : (old mid : Opened) (w : World) (r name : List ℕ) (moment : ℕ) (step : Step) (k : ARoamer) (e : Effect) (one other : Standing) (h left : Roamer) (result : Result (List ℕ) Stop)
    → DeskStands old w → IsSound w → w.moment ≡ moment → get w.names r ≡ Some (roamer k) → IsRoamerOf w h k → name ≡ h.document → Uses {A = Unit {0}} name moment old mid (Ok tt) → mid.limits ≡ old.limits
    → get mid.lanes name ≡ Some one → about w step ≡ Some k.client.document → effect old.limits w (document w name) step ≡ e
    → (IsLaneOf old.limits one (document w name) → Stands (ledger_of (document w name)) k.client → IsRoamerIn (ledger_of (document w name)) h k → LaneSteps old.limits e (document w name) k r other left result)
    → StepDoes (done old.limits w step) r (with_lane mid name other) left result
step_on old mid w r name moment step k e one other h left result desk sound at named roams own used same there is_about is_effect does_it =
    let of_name : name ≡ k.client.document = own ∙ roams.document in
    let sounds = sound_client w r k sound named in
    let opened : is_open w name ≡ true = ap (is_open w) of_name ∙ sounds.open_is in
    let lane = own_lane old mid w name moment one desk at used same there opened in
    let stands : Stands (ledger_of (document w name)) k.client = subst (λ n. Stands (ledger_in w n) k.client) (sym of_name) (stands_in w k.client sounds) in
    let held : IsRoamerIn (ledger_of (document w name)) h k = subst (λ n. IsRoamerIn (ledger_in w n) h k) (sym of_name) roams in
    subst (λ t. StepDoes t r (with_lane mid name other) left result) (sym (opened_step old.limits w name step (is_about ∙ ap Some (sym of_name)) opened ∙ ap (λ x. does x (Some name) w) is_effect))
    (by opened of_name result (does_it lane stands held))
  where
    by : is_open w name ≡ true → name ≡ k.client.document → (a : Result (List ℕ) Stop) → LaneSteps old.limits e (document w name) k r other left a → StepDoes (does e (Some name) w) r (with_lane mid name other) left a
    by opened of_name (Ok line) did =
        let document_of : document (changed e (Some name) w) did.now.client.document ≡ grown e (document w name) =
        ap (document (changed e (Some name) w)) (did.same ∙ sym of_name) ∙ document_then w e name in
        record {
          stands = acts mid w name other e (mid_stands old mid w name moment one desk at used same there opened) (ap is_some there) opened (subst (λ l. IsLaneOf l other (grown e (document w name))) (sym same) did.stands);
          now = did.now;
          name = named_then w e r k did.now named did.name;
          roams = subst (λ d. IsRoamerIn (ledger_of d) left did.now) (sym document_of) did.roams;
          says = did.says;
        }
    by opened of_name (Err stop) did = may_act w mid name other e stop did

-- its document wasn't opened
pub unstepped : (limits : Limits) (o : Opened) (w : World) (name : List ℕ) (step : Step) (k : ARoamer) (h : Roamer) (stop : Stop) → about w step ≡ Some k.client.document → IsRoamerOf w h k → name ≡ h.document → IsUnready w name o stop
    → MayStop (done limits w step).world o stop
unstepped limits o w name step k h stop is_about roams own unready = may_unready limits w name o step stop (is_about ∙ ap Some (sym (own ∙ roams.document))) unready

-- a roamer's document is never one too many
pub never_away : {A : Type 0} (old mid : Opened) (w : World) (r name : List ℕ) (k : ARoamer) (h : Roamer) (count : ℕ) → DeskStands old w → IsSound w → get w.names r ≡ Some (roamer k) → IsRoamerOf w h k → name ≡ h.document
    → IsOneTooMany name old mid count → A
never_away old mid w r name k h count desk sound named roams own many =
    absurd (never_beyond old mid w name count desk (ap (is_open w) (own ∙ roams.document) ∙ (sound_client w r k sound named).open_is) many)

-- ---- what the table says of a step of a roamer

pub about_roamer : (w : World) (r : List ℕ) (k : ARoamer) → get w.names r ≡ Some (roamer k) → option_and_then (λ k. Some k.client.document) (roamer_in (get w.names r)) ≡ Some k.client.document
about_roamer w r k named = ap (λ n. option_and_then (λ (c : ARoamer). Some c.client.document) (roamer_in n)) named

pub about_shown : (w : World) (r : List ℕ) (k : ARoamer) → get w.names r ≡ Some (roamer k) → option_and_then (λ k. Some k.document) (shown_in (get w.names r)) ≡ Some k.client.document
about_shown w r k named = ap (λ n. option_and_then (λ (c : Container). Some c.document) (shown_in n)) named

pub effect_of : (w : World) (r : List ℕ) (k : ARoamer) (does : ARoamer → Effect) → get w.names r ≡ Some (roamer k) → on_roamer w (roamer_in (get w.names r)) does ≡ does k
effect_of w r k does named = ap (λ n. on_roamer w (roamer_in n) does) named

-- ---- a step that doesn't ask the lane

module _ (old mid : Opened) (w : World) (r name : List ℕ) (moment : ℕ) (k : ARoamer) (h : Roamer) (desk : DeskStands old w) (sound : IsSound w) (at : w.moment ≡ moment) (named : get w.names r ≡ Some (roamer k))
    (roams : IsRoamerOf w h k) (own : name ≡ h.document) (used : Uses {A = Unit {0}} name moment old mid (Ok tt)) (same : mid.limits ≡ old.limits) where
  of_name : name ≡ k.client.document
  of_name = own ∙ roams.document

  opened : is_open w name ≡ true
  opened = ap (is_open w) of_name ∙ (sound_client w r k sound named).open_is

  stands : DeskStands mid w
  stands = subst (DeskStands mid) (readied_same w name opened) (uses old mid w name moment desk at used).stands

  -- it adds nothing
  left_so : (e : Effect) → e.entries ≡ [] → e.checkpoints ≡ [] → DeskStands mid (changed e (Some name) w)
  left_so e no_entries no_checkpoints =
      let lane = open_lane mid w name stands opened in
      let of = (lane_of_desk mid w name lane.0 stands lane.1).1 in
      let d = document w name in
      subst (λ n. DeskStands n (changed e (Some name) w)) (left_same mid name lane.0 lane.1)
      (acts mid w name lane.0 e stands (ap is_some lane.1) opened
      (subst (λ es. IsLaneOf mid.limits lane.0 (record { raws = d.raws ++ es; checkpoints = d.checkpoints ++ e.checkpoints })) (sym no_entries)
      (subst (λ cs. IsLaneOf mid.limits lane.0 (record { raws = d.raws ++ []; checkpoints = d.checkpoints ++ cs })) (sym no_checkpoints) (same_lane mid.limits lane.0 d of))))

  pub loses_on : (left : Roamer) (result : Result (List ℕ) Stop) → ((d : Document) → IsRoamerIn (ledger_of d) h k → IsRoamerIn (ledger_of d) left (record k { is_lost = true })) → IsLine (lines.lost_line r) result
      → StepDoes (done old.limits w (step.Lose r)) r mid left result
  loses_on left result loses line =
      let e : Effect = lost w r k in
      let effect_is : done old.limits w (step.Lose r) ≡ does e (Some name) w =
      opened_step old.limits w name (step.Lose r) (about_roamer w r k named ∙ ap Some (sym of_name)) opened ∙ ap (λ x. does x (Some name) w) (effect_of w r k (lost w r) named) in
      subst (λ t. StepDoes t r mid left result) (sym effect_is) (by result line)
    where
      same_document : document (changed (lost w r k) (Some name) w) k.client.document ≡ grown (lost w r k) (document w k.client.document)
      same_document = ap (document (changed (lost w r k) (Some name) w)) (sym of_name) ∙ document_then w (lost w r k) name ∙ ap (λ n. grown (lost w r k) (document w n)) of_name

      by : (a : Result (List ℕ) Stop) → IsLine (lines.lost_line r) a → StepDoes (does (lost w r k) (Some name) w) r mid left a
      by (Ok text) line = record {
        stands = left_so (lost w r k) refl refl;
        now = record k { is_lost = true };
        name = get_own w.names r (roamer (record k { is_lost = true }));
        roams = loses (document (changed (lost w r k) (Some name) w) k.client.document)
            (subst (λ d. IsRoamerIn (ledger_of d) h k) (sym same_document)
            (subst (λ raws. IsRoamerIn (ledger_by_rules raws) h k) (sym (append-nil (document w k.client.document).raws)) roams));
        says = ap (λ t. t ∷ []) (sym line);
      }
      by (Err stop) line = may_want (changed (lost w r k) (Some name) w) mid stop line

  pub shows_on : (result : Result (List ℕ) Stop) → IsLine (lines.shown_line r h.outbox.heard_to (shown (replay_edits h.app.channels h.app.pending))) result → DeskDoes (done old.limits w (step.Show r)) mid result
  shows_on result line =
      let e : Effect = showing w (document w name) r k.client in
      let about_is = ap (λ n. option_and_then (λ (c : Container). Some c.document) (shown_in n)) named ∙ ap Some (sym of_name) in
      let effect_is : done old.limits w (step.Show r) ≡ does e (Some name) w =
      opened_step old.limits w name (step.Show r) about_is opened ∙ ap (λ n. does (on_container w (shown_in n) (showing w (document w name) r)) (Some name) w) named in
      subst (λ t. DeskDoes t mid result) (sym effect_is) (by result line)
    where
      line_is : lines.shown_line r h.outbox.heard_to (shown (replay_edits h.app.channels h.app.pending)) ≡ lines.shown_line r k.client.number (shown (visible (ledger_of (document w name)) k.client))
      line_is =
          ap (λ n. lines.shown_line r n (shown (replay_edits h.app.channels h.app.pending))) (roams.outbox.heard ∙ roams.heard)
          ∙ ap (λ c. lines.shown_line r k.client.number (shown (replay_edits c h.app.pending))) (roams.channels ∙ roams.container.channels_are)
          ∙ ap (λ pending. lines.shown_line r k.client.number (shown (replay_edits (channels (ledger_in w k.client.document) k.client) pending))) roams.pending
          ∙ ap (λ n. lines.shown_line r k.client.number (shown (visible (ledger_in w n) k.client))) (sym of_name)

      by : (a : Result (List ℕ) Stop) → IsLine (lines.shown_line r h.outbox.heard_to (shown (replay_edits h.app.channels h.app.pending))) a → DeskDoes (does (showing w (document w name) r k.client) (Some name) w) mid a
      by (Ok text) line = record { stands = left_so (showing w (document w name) r k.client) refl refl; says = ap (λ t. t ∷ []) (sym (line ∙ line_is)) }
      by (Err stop) line = may_want (changed (showing w (document w name) r k.client) (Some name) w) mid stop line

-- ---- roam

abbrev roam_effect : Limits → World → (r name : List ℕ) → Effect
roam_effect limits v r name = roamed limits v (document v name) r name

module _ (old mid : Opened) (w : World) (name : List ℕ) (moment : ℕ) (one other : Standing) (desk : DeskStands old w) (at : w.moment ≡ moment) (used : Uses {A = Unit {0}} name moment old mid (Ok tt)) (same : mid.limits ≡ old.limits)
    (there : get mid.lanes name ≡ Some one) where
  abbrev v : World
  v = readied w name

  ready : DeskStands mid v
  ready = (uses old mid w name moment desk at used).stands

  own : (is_open v name ≡ true) × IsLaneOf old.limits one (document v name)
  own =
      let lane = lane_of_desk mid v name one ready there in
      (lane.0, subst (λ l. IsLaneOf l one (document v name)) same lane.1)

  pub roams_on : (r : List ℕ) (result : Result (List ℕ × Option Roamer) Stop)
      → ((u : World) → u.moment ≡ moment → IsLaneOf old.limits one (document u name) → LaneRoams old.limits (roamed old.limits u (document u name) r name) (document u name) r name other result)
      → RoamDoes (done old.limits w (step.Roam r name)) r (with_lane mid name other) result
  roams_on r result does_it =
      subst (λ t. RoamDoes t r (with_lane mid name other) result) (sym (done_within old.limits w name (step.Roam r name) refl (uses old mid w name moment desk at used).within))
      (by result (does_it v (readied_moment w name ∙ at) own.1))
    where
      names : (made : Option Roamer) → BeginsAs (roam_effect old.limits v r name) r name (document v name) made → IsNamedIn (changed (roam_effect old.limits v r name) (Some name) v) r made
      names (Some h) (k, (is, (of, roams))) =
          (k, (ap (λ n. get (with_name n v.names) r) is ∙ get_own v.names r (roamer k), subst (λ d. IsRoamerIn (ledger_of d) h k) (sym (ap (document (changed (roam_effect old.limits v r name) (Some name) v)) of ∙ document_then v (roam_effect old.limits v r name) name)) roams))
      names None is = ap (λ n. get (with_name n v.names) r) is ∙ get_own v.names r used_up

      by : (a : Result (List ℕ × Option Roamer) Stop) → LaneRoams old.limits (roam_effect old.limits v r name) (document v name) r name other a → RoamDoes (done_in old.limits v name (step.Roam r name)) r (with_lane mid name other) a
      by (Ok made) did = record {
        stands = acts mid v name other (roam_effect old.limits v r name) ready (ap is_some there) own.0 (subst (λ l. IsLaneOf l other (grown (roam_effect old.limits v r name) (document v name))) (sym same) did.stands);
        name = names made.1 did.begins;
        says = did.says;
      }
      by (Err stop) did = may_act v mid name other (roam_effect old.limits v r name) stop did

-- as many documents are open as may be
pub roams_away : (old new : Opened) (w : World) (name : List ℕ) (count : ℕ) (r : List ℕ) (result : Result (List ℕ × Option Roamer) Stop) → DeskStands old w → IsOneTooMany name old new count → IsTurnedAway r result
    → RoamDoes (done old.limits w (step.Roam r name)) r new result
roams_away old new w name count r result desk many turned =
    let beyond_is = too_many old new w name count desk many in
    subst (λ t. RoamDoes t r new result) (sym (done_beyond old.limits w name (step.Roam r name) refl beyond_is.0)) (by beyond_is.1 result turned)
  where
    by : DeskStands new w → (a : Result (List ℕ × Option Roamer) Stop) → IsTurnedAway r a → RoamDoes (does (load_beyond w r) None w) r new a
    by stands (Ok made) turned = record {
      stands = stays_desk new w (load_beyond w r) stands;
      name = subst (IsNamedIn (changed (load_beyond w r) None w) r) (sym turned.1) (get_own w.names r used_up);
      says = ap (λ t. t ∷ []) (sym turned.0);
    }
    by stands (Err stop) turned = may_want (changed (load_beyond w r) None w) new stop turned
