-- What each line leaves of a sound world.
use Rattle.std.proofs.Common.{◌≡◌, inl, inr, ℕ, ◌+◌, ◌==◌, Bool, true, false, if◌then◌else◌, List, [], ◌∷◌, ◌++◌, length, arith, Option, Some, None, Result, Ok, Err, refl, sym, ap, ap₂, subst, ◌∙◌, bytes_eq}
use Rattle.std.specs.Prelude.{◌||◌, IfSome, slice_get, option_and_then}
use Rattle.std.specs.List.{list_any, filter_map}
use Rattle.std.specs.Option.{option_or}
use Rattle.std.specs.FinMap.{get, insert, get-empty}
use Rattle.std.proofs.lemmas.List.Folds.{list_any-append}
use Rattle.std.proofs.lemmas.Slice.Eq.{bytes_eq-Decides}
use Rattle.fluid_table.specs.Table.{byte_order}
use Rattle.fluid_json.specs.declared.fault.JsonFault.{JsonFault}
use Rattle.fluid_edits.specs.declared.edit.Edit.{Edit as AnEdit}
use Rattle.fluid_rules.specs.declared.limits.Limits.{Limits}
use Rattle.fluid_scribe.specs.Jobs.{job}
use Rattle.fluid_types.specs.Ledger.{order}
use Rattle.fluid_lane.specs.Laws.{first_silent_in}
use Rattle.fluid_steps.specs.Grammar.{step_spelled}
use Rattle.fluid_steps.specs.declared.steps.Step.{Step}
use Rattle.fluid_steps.specs.declared.steps.Step.TheVariants.{Send, Collect, Close, Scribe, Checkpoint, Restart, Reopen, Sweep, Count, Tasks, Load, Pump, Edit, Beat, Summarize, Show, Roam, Say, Lose, Back, Acked}
use Rattle.fluid_steps.specs.declared.refusal.LineWhy.{LineWhy}
use Rattle.fluid_voice.specs.declared.refusals.ConnectRefusal.TheVariants.{TooManyDocuments}
use Rattle.fluid_voice.specs.Ends.{is_beyond}
use Rattle.fluid_voice.specs.Heard.{acts_of}
use Rattle.fluid_voice.specs.States as states
use Rattle.fluid_transcript.specs.World.{Document, Container, Roamer, Name, connection, container, roamer, used_up, World, new_document, first_world, document, is_open, ledger_of, with_entries, farewells, Effect, says, changed, does}
use Rattle.fluid_transcript.specs.Connections.{voice_named, connects, sent_to}
use Rattle.fluid_transcript.specs.Documents.{restarted, reopened, counted_up, told_tasks}
use Rattle.fluid_transcript.specs.Containers.{showing}
use Rattle.fluid_transcript.specs.Lines.{turned_away_line}
use Rattle.fluid_transcript.specs.Steps.{container_in, container_of, roamer_in, roamer_of, shown_in, shown_of, refusal_to_send, refusal_as_connection, refusal_as_container, refusal_as_roamer, refusal_as_lost, refusal_to_show, refusal_as_new, refusal_of_edit, refusal, container_document, roamer_document, about, on_container, on_roamer, edit_effect, effect, beyond}
use Rattle.fluid_transcript.specs.Transcript.{readied, done_in, done_on, done, at_line, done_as, taken, refused_as, end_effect, loaded_last}
use Rattle.fluid_transcript.specs.Sound.{Grows, GoesOnAs, client_in, IsSoundName, IsSound, ChangesOneName}
use Rattle.fluid_transcript.specs.Laws.{FirstIsSound, Leaves, LinesLeave, MomentIsLines, LastGrows}
use Rattle.fluid_transcript.proofs.Sounds.{grows_on, at_line_grows, readied_grows, same_names, none_named, EffectFits, StepLeaves, fitting_leaves, changed_grows}
use Rattle.fluid_transcript.proofs.Fitting.{plain, keeps_self, IsFound, IsReady, send_fits}
use Rattle.fluid_transcript.proofs.Holding.{AreFound, scribe_fits, checkpoint_fits, sweep_fits, collect_fits, close_fits, used_fits, load_fits, pump_fits, edit_fits, beat_fits, summarize_fits}
use Rattle.fluid_transcript.proofs.Roaming.{roam_fits, say_fits, lose_fits, back_fits, acked_fits}

-- ---- a step

-- the container of a name that is one's
container_there : (w : World) (p : List ℕ) (P : Option Container → Type 0) → refusal_as_container (get w.names p) ≡ None
    → ((k : Container) → get w.names p ≡ Some (container k) → P (Some k)) → P (container_of w p)
container_there w p P ok h = by (get w.names p) refl ok
  where
    by : (o : Option Name) → get w.names p ≡ o → refusal_as_container o ≡ None → P (container_in (get w.names p))
    by None is ok = absurd (cc)
    by (Some (connection voice)) is ok = absurd (cc)
    by (Some (container k)) is ok = subst (λ o. P (container_in o)) (sym is) (h k is)
    by (Some (roamer k)) is ok = absurd (cc)
    by (Some used_up) is ok = absurd (cc)

-- the roamer of a name that is one's
roamer_there : (w : World) (r : List ℕ) (P : Option Roamer → Type 0) → refusal_as_roamer (get w.names r) ≡ None
    → ((k : Roamer) → get w.names r ≡ Some (roamer k) → P (Some k)) → P (roamer_of w r)
roamer_there w r P ok h = by (get w.names r) refl ok
  where
    by : (o : Option Name) → get w.names r ≡ o → refusal_as_roamer o ≡ None → P (roamer_in (get w.names r))
    by None is ok = absurd (cc)
    by (Some (connection voice)) is ok = absurd (cc)
    by (Some (container k)) is ok = absurd (cc)
    by (Some (roamer k)) is ok = subst (λ o. P (roamer_in o)) (sym is) (h k is)
    by (Some used_up) is ok = absurd (cc)

-- a name that is a lost roamer's, or another one's, is a roamer's
one_ok : (is_lost : Bool) (o : Option Name) → refusal_as_lost is_lost o ≡ None → refusal_as_roamer o ≡ None
one_ok is_lost None ok = ok
one_ok is_lost (Some (connection voice)) ok = ok
one_ok is_lost (Some (container k)) ok = ok
one_ok is_lost (Some (roamer k)) ok = refl
one_ok is_lost (Some used_up) ok = ok

-- what is shown under a name
shown_there : (w : World) (p : List ℕ) (P : Option Container → Type 0) → refusal_to_show (get w.names p) ≡ None → ((k : Container) → P (Some k)) → P (shown_of w p)
shown_there w p P ok h = by (get w.names p) ok
  where
    by : (o : Option Name) → refusal_to_show o ≡ None → P (shown_in o)
    by None ok = absurd (cc)
    by (Some (connection voice)) ok = absurd (cc)
    by (Some (container k)) ok = h k
    by (Some (roamer k)) ok = h k.client
    by (Some used_up) ok = absurd (cc)

edit_ok : (op : Result AnEdit JsonFault) (o : Option LineWhy) → refusal_of_edit op o ≡ None → o ≡ None
edit_ok op None ok = refl
edit_ok op (Some why) ok = ok

-- a step on the document that it reaches, which is open
module _ (limits : Limits) (w : World) (d : Document) (sound : IsSound w) where
  -- a document that a text reaches is ready
  ready : (name : Option (List ℕ)) → AreFound w name d → IsReady w name name d
  ready None found = tt
  ready (Some name) found = inl (refl, found)

  contained : (p : List ℕ) (does : Container → Effect) → refusal_as_container (get w.names p) ≡ None
      → ((k : Container) → get w.names p ≡ Some (container k) → IsFound w k.document d → EffectFits w (Some k.document) (does k))
      → AreFound w (container_document w p) d → EffectFits w (container_document w p) (on_container w (container_of w p) does)
  contained p does ok fits =
      container_there w p (λ o. AreFound w (option_and_then (λ k. Some k.document) o) d → EffectFits w (option_and_then (λ k. Some k.document) o) (on_container w o does)) ok fits

  roaming : (r : List ℕ) (does : Roamer → Effect) → refusal_as_roamer (get w.names r) ≡ None
      → ((k : Roamer) → get w.names r ≡ Some (roamer k) → IsFound w k.client.document d → EffectFits w (Some k.client.document) (does k))
      → AreFound w (roamer_document w r) d → EffectFits w (roamer_document w r) (on_roamer w (roamer_of w r) does)
  roaming r does ok fits =
      roamer_there w r (λ o. AreFound w (option_and_then (λ k. Some k.client.document) o) d → EffectFits w (option_and_then (λ k. Some k.client.document) o) (on_roamer w o does)) ok fits

  edits : (p : List ℕ) (op : Result AnEdit JsonFault) (k : Container) → get w.names p ≡ Some (container k) → EffectFits w (Some k.document) (edit_effect limits w d p op k)
  edits p (Ok edit) k there = edit_fits w p k sound there limits (Some k.document) d edit
  edits p (Err fault) k there = plain w (Some k.document) (edit_effect limits w d p (Err fault) k) refl (keeps_self w.store)

  step_fits : (step : Step) → refusal w step ≡ None → AreFound w (about w step) d → EffectFits w (about w step) (effect limits w d step)
  step_fits (Send c text) ok found = send_fits limits w (sent_to w c text) d c text sound ok (ready (sent_to w c text) found)
  step_fits (Collect c) ok found = collect_fits w c d (get w.names c) refl ok sound found
  step_fits (Close c) ok found = close_fits w c (about w (Close c)) ok
  step_fits (Scribe name) ok found = scribe_fits w (Some name) (ledger_of d) name (job (order (ledger_of d)))
  step_fits (Checkpoint name) ok found = checkpoint_fits limits w (Some name) d name
  step_fits (Restart name checkpoint) ok found = plain w (Some name) (restarted w d name checkpoint) refl (keeps_self w.store)
  step_fits (Reopen name) ok found = plain w (Some name) (reopened w d name) refl (keeps_self w.store)
  step_fits (Sweep name silence) ok found = sweep_fits w (Some name) name (first_silent_in w.moment silence (ledger_of d))
  step_fits (Count name) ok found = plain w (Some name) (counted_up w d name) refl (keeps_self w.store)
  step_fits (Tasks name) ok found = plain w (Some name) (told_tasks w d name) refl (keeps_self w.store)
  step_fits (Load p name pick) ok found = load_fits w d p name ok found limits pick
  step_fits (Pump p) ok found = contained p _ ok (λ k there found. pump_fits w p k sound there d found) found
  step_fits (Edit p op) ok found = contained p _ (edit_ok op _ ok) (λ k there found. edits p op k there) found
  step_fits (Beat p) ok found = contained p _ ok (λ k there found. beat_fits w p k sound there limits (Some k.document) d) found
  step_fits (Summarize p) ok found = contained p _ ok (λ k there found. summarize_fits w p k sound there limits (Some k.document) d) found
  step_fits (Show p) ok found =
      shown_there w p (λ o. EffectFits w (option_and_then (λ k. Some k.document) o) (on_container w o (showing w d p))) ok (λ k. plain w (Some k.document) _ refl (keeps_self w.store))
  step_fits (Roam r name) ok found = roam_fits w d r name ok found limits
  step_fits (Say r op) ok found = roaming r _ (edit_ok op _ ok) (λ k there found. say_fits w r k sound there limits (Some k.client.document) d op) found
  step_fits (Lose r) ok found = roaming r _ (one_ok false (get w.names r) ok) (λ k there found. lose_fits w r k sound there (Some k.client.document)) found
  step_fits (Back r) ok found = roaming r _ (one_ok true (get w.names r) ok) (λ k there found. back_fits w r k sound there d found limits) found
  step_fits (Acked r) ok found = roaming r _ ok (λ k there found. acked_fits w r k sound there d found) found

-- where as many documents as may be are open
module _ (limits : Limits) (w : World) (name : List ℕ) (sound : IsSound w) (full : is_beyond w.opened name ≡ true) where
  ready_beyond : (reached : Option (List ℕ)) → reached ≡ Some name → IsReady w None reached new_document
  ready_beyond None is = tt
  ready_beyond (Some other) is = inr (let same : other ≡ name = cc in subst (λ q. is_beyond w.opened q ≡ true) (sym same) full)

  beyond_fits : (step : Step) → about w step ≡ Some name → refusal w step ≡ None → EffectFits w None (beyond limits w name step)
  beyond_fits (Send c text) is ok = send_fits limits w None new_document c text sound ok (ready_beyond (sent_to w c text) is)
  beyond_fits (Collect c) is ok = plain w None _ refl (keeps_self w.store)
  beyond_fits (Close c) is ok = plain w None _ refl (keeps_self w.store)
  beyond_fits (Scribe other) is ok = plain w None _ refl (keeps_self w.store)
  beyond_fits (Checkpoint other) is ok = plain w None _ refl (keeps_self w.store)
  beyond_fits (Restart other checkpoint) is ok = plain w None _ refl (keeps_self w.store)
  beyond_fits (Reopen other) is ok = plain w None _ refl (keeps_self w.store)
  beyond_fits (Sweep other silence) is ok = plain w None _ refl (keeps_self w.store)
  beyond_fits (Count other) is ok = plain w None _ refl (keeps_self w.store)
  beyond_fits (Tasks other) is ok = plain w None _ refl (keeps_self w.store)
  beyond_fits (Load p other pick) is ok = used_fits w None _ p ok (keeps_self w.store) refl
  beyond_fits (Pump p) is ok = plain w None _ refl (keeps_self w.store)
  beyond_fits (Edit p op) is ok = plain w None _ refl (keeps_self w.store)
  beyond_fits (Beat p) is ok = plain w None _ refl (keeps_self w.store)
  beyond_fits (Summarize p) is ok = plain w None _ refl (keeps_self w.store)
  beyond_fits (Show p) is ok = plain w None _ refl (keeps_self w.store)
  beyond_fits (Roam r other) is ok = used_fits w None _ r ok (keeps_self w.store) refl
  beyond_fits (Say r op) is ok = plain w None _ refl (keeps_self w.store)
  beyond_fits (Lose r) is ok = plain w None _ refl (keeps_self w.store)
  beyond_fits (Back r) is ok = plain w None _ refl (keeps_self w.store)
  beyond_fits (Acked r) is ok = plain w None _ refl (keeps_self w.store)

-- ---- another world with the same names and moment

same_about : (a b : World) → b.names ≡ a.names → b.moment ≡ a.moment → (step : Step) → about b step ≡ about a step
same_about a b names moment (Send c text) = ap₂ (λ n m. option_or (slice_get (filter_map connects (acts_of (voice_named (get n c)) text m)) 0) (states.document_name (voice_named (get n c)))) names moment
same_about a b names moment (Collect c) = ap (λ n. states.document_name (voice_named (get n c))) names
same_about a b names moment (Close c) = ap (λ n. states.document_name (voice_named (get n c))) names
same_about a b names moment (Scribe name) = refl
same_about a b names moment (Checkpoint name) = refl
same_about a b names moment (Restart name checkpoint) = refl
same_about a b names moment (Reopen name) = refl
same_about a b names moment (Sweep name silence) = refl
same_about a b names moment (Count name) = refl
same_about a b names moment (Tasks name) = refl
same_about a b names moment (Load p name pick) = refl
same_about a b names moment (Pump p) = ap (λ n. option_and_then (λ k. Some k.document) (container_in (get n p))) names
same_about a b names moment (Edit p op) = ap (λ n. option_and_then (λ k. Some k.document) (container_in (get n p))) names
same_about a b names moment (Beat p) = ap (λ n. option_and_then (λ k. Some k.document) (container_in (get n p))) names
same_about a b names moment (Summarize p) = ap (λ n. option_and_then (λ k. Some k.document) (container_in (get n p))) names
same_about a b names moment (Show p) = ap (λ n. option_and_then (λ k. Some k.document) (shown_in (get n p))) names
same_about a b names moment (Roam r name) = refl
same_about a b names moment (Say r op) = ap (λ n. option_and_then (λ k. Some k.client.document) (roamer_in (get n r))) names
same_about a b names moment (Lose r) = ap (λ n. option_and_then (λ k. Some k.client.document) (roamer_in (get n r))) names
same_about a b names moment (Back r) = ap (λ n. option_and_then (λ k. Some k.client.document) (roamer_in (get n r))) names
same_about a b names moment (Acked r) = ap (λ n. option_and_then (λ k. Some k.client.document) (roamer_in (get n r))) names

same_refusal : (a b : World) → b.names ≡ a.names → (step : Step) → refusal b step ≡ refusal a step
same_refusal a b names (Send c text) = ap (λ n. refusal_to_send (get n c)) names
same_refusal a b names (Collect c) = ap (λ n. refusal_as_connection (get n c)) names
same_refusal a b names (Close c) = ap (λ n. refusal_as_connection (get n c)) names
same_refusal a b names (Scribe name) = refl
same_refusal a b names (Checkpoint name) = refl
same_refusal a b names (Restart name checkpoint) = refl
same_refusal a b names (Reopen name) = refl
same_refusal a b names (Sweep name silence) = refl
same_refusal a b names (Count name) = refl
same_refusal a b names (Tasks name) = refl
same_refusal a b names (Load p name pick) = ap (λ n. refusal_as_new (get n p)) names
same_refusal a b names (Pump p) = ap (λ n. refusal_as_container (get n p)) names
same_refusal a b names (Edit p op) = ap (λ n. refusal_of_edit op (refusal_as_container (get n p))) names
same_refusal a b names (Beat p) = ap (λ n. refusal_as_container (get n p)) names
same_refusal a b names (Summarize p) = ap (λ n. refusal_as_container (get n p)) names
same_refusal a b names (Show p) = ap (λ n. refusal_to_show (get n p)) names
same_refusal a b names (Roam r name) = ap (λ n. refusal_as_new (get n r)) names
same_refusal a b names (Say r op) = ap (λ n. refusal_of_edit op (refusal_as_roamer (get n r))) names
same_refusal a b names (Lose r) = ap (λ n. refusal_as_lost false (get n r)) names
same_refusal a b names (Back r) = ap (λ n. refusal_as_lost true (get n r)) names
same_refusal a b names (Acked r) = ap (λ n. refusal_as_roamer (get n r)) names

-- ---- a document that is readied

or_second : (x y : Bool) → y ≡ true → (x || y) ≡ true
or_second true y h = refl
or_second false y h = h

pub readied_open : (w : World) (name : List ℕ) → is_open (readied w name) name ≡ true
readied_open w name = by (is_open w name) refl
  where
    by : (b : Bool) → is_open w name ≡ b → is_open (if b then w else (record w {
      documents = insert w.documents name (with_entries (farewells w.moment (document w name)) (document w name));
      opened = w.opened ++ name ∷ [];
    })) name ≡ true
    by true is = is
    by false is =
        list_any-append (bytes_eq name) w.opened (name ∷ []) ∙ or_second (list_any (bytes_eq name) w.opened) (bytes_eq name name || false) (rw ((bytes_eq-Decides name name).1 refl) refl)

readied_names : (w : World) (name : List ℕ) → (readied w name).names ≡ w.names
readied_names w name = by (is_open w name)
  where
    by : (b : Bool) → (if b then w else (record w {
      documents = insert w.documents name (with_entries (farewells w.moment (document w name)) (document w name));
      opened = w.opened ++ name ∷ [];
    })).names ≡ w.names
    by true = refl
    by false = refl

readied_moment : (w : World) (name : List ℕ) → (readied w name).moment ≡ w.moment
readied_moment w name = by (is_open w name)
  where
    by : (b : Bool) → (if b then w else (record w {
      documents = insert w.documents name (with_entries (farewells w.moment (document w name)) (document w name));
      opened = w.opened ++ name ∷ [];
    })).moment ≡ w.moment
    by true = refl
    by false = refl

-- ---- a step, with the opening of its document

-- what a step leaves of a world at its line
pub record Steps (old new : World) : Type 0 where
  pub leaves : StepLeaves old new
  pub moment : new.moment ≡ old.moment

named_as : (a b c : World) → b.names ≡ a.names → ChangesOneName b c → ChangesOneName a c
named_as a b c names one = record {
  name = one.name;
  others = λ q other. one.others q other ∙ ap (λ n. get n q) names;
  goes_on = subst (λ n. GoesOnAs (get n one.name) (get c.names one.name)) names one.goes_on;
}

module _ (limits : Limits) (w : World) (sound : IsSound w) (step : Step) (ok : refusal w step ≡ None) where
  in_place : (name : List ℕ) → about w step ≡ Some name → Steps w (done_in limits (readied w name) name step).world
  in_place name is =
      let r = readied w name in
      let grows = readied_grows w name in
      let names = readied_names w name in
      let reached : about r step ≡ Some name = same_about w r names (readied_moment w name) step ∙ is in
      let fits = step_fits limits r (document r name) (same_names w r grows names sound) step (same_refusal w r names step ∙ ok)
      (subst (λ o. AreFound r o (document r name)) (sym reached) (record { open_is = readied_open w name; is = refl })) in
      let leaves = fitting_leaves r (Some name) (effect limits r (document r name) step) (same_names w r grows names sound)
      (subst (λ o. EffectFits r o (effect limits r (document r name) step)) reached fits) in
      record {
        leaves = record {
          grows = grows_on w r (changed (effect limits r (document r name) step) (Some name) r) grows leaves.grows;
          one_name = named_as w r (changed (effect limits r (document r name) step) (Some name) r) names leaves.one_name;
          sound = leaves.sound;
        };
        moment = readied_moment w name;
      }

  on_by : (name : List ℕ) (full : Bool) → about w step ≡ Some name → is_beyond w.opened name ≡ full
      → Steps w (if full then does (beyond limits w name step) None w else done_in limits (readied w name) name step).world
  on_by name true is full = record { leaves = fitting_leaves w None (beyond limits w name step) sound (beyond_fits limits w name sound full step is ok); moment = refl }
  on_by name false is full = in_place name is

  on : (name : Option (List ℕ)) → about w step ≡ name → Steps w (done_on limits w name step).world
  on None is = record {
    leaves = fitting_leaves w None (effect limits w new_document step) sound
        (subst (λ o. EffectFits w o (effect limits w new_document step)) is (step_fits limits w new_document sound step ok (subst (λ o. AreFound w o new_document) (sym is) tt)));
    moment = refl;
  }
  on (Some name) is = on_by name (is_beyond w.opened name) is refl

  pub done_leaves : Steps w (done limits w step).world
  done_leaves = on (about w step) refl

-- ---- a line

spelled_leaves : (limits : Limits) (w : World) (step : Result Step LineWhy) → IsSound w → refused_as w step ≡ None → Steps w (done_as limits w step).world
spelled_leaves limits w (Ok step) sound ok = done_leaves limits w sound step ok
spelled_leaves limits w (Err why) sound ok = absurd (cc)

at_line_refusal : (w : World) (step : Result Step LineWhy) → refused_as (at_line w) step ≡ refused_as w step
at_line_refusal w (Ok step) = same_refusal w (at_line w) refl step
at_line_refusal w (Err why) = refl

pub lines_leave : LinesLeave
lines_leave limits w line sound = by (length line == 0)
  where
    at : IsSound (at_line w)
    at = same_names w (at_line w) (at_line_grows w) refl sound

    by : (empty : Bool) → (if empty then None else refused_as w (step_spelled line)) ≡ None
        → Leaves w (if empty then (record { world = at_line w; lines = [] }) else done_as limits (at_line w) (step_spelled line)).world
    by true ok = record { grows = at_line_grows w; one_name = none_named w (at_line w) refl; moment = refl; sound = at }
    by false ok =
        let steps = spelled_leaves limits (at_line w) (step_spelled line) at (at_line_refusal w (step_spelled line) ∙ ok) in
        record {
          grows = grows_on w (at_line w) (done_as limits (at_line w) (step_spelled line)).world (at_line_grows w) steps.leaves.grows;
          one_name = named_as w (at_line w) (done_as limits (at_line w) (step_spelled line)).world refl steps.leaves.one_name;
          moment = steps.moment;
          sound = steps.leaves.sound;
        }

-- ---- at first

pub first_is_sound : FirstIsSound
first_is_sound documents store = record {
  names = λ name. subst (λ o. IfSome o (IsSoundName (first_world documents store))) (sym (get-empty byte_order name)) tt;
  apart = λ one other name id first second fits. absurd (let no : None ≡ Some (name, id) = ap client_in (sym (get-empty byte_order one)) ∙ first in cc);
}

-- ---- moments

does_moment : (limits : Limits) (w : World) (step : Step) (name : Option (List ℕ)) → (done_on limits w name step).world.moment ≡ w.moment
does_moment limits w step None = refl
does_moment limits w step (Some name) = by (is_beyond w.opened name)
  where
    by : (full : Bool) → (if full then does (beyond limits w name step) None w else done_in limits (readied w name) name step).world.moment ≡ w.moment
    by true = refl
    by false = readied_moment w name

as_moment : (limits : Limits) (w : World) (step : Result Step LineWhy) → (done_as limits w step).world.moment ≡ w.moment
as_moment limits w (Ok step) = does_moment limits w step (about w step)
as_moment limits w (Err why) = refl

taken_moment : (limits : Limits) (w : World) (line : List ℕ) → (taken limits w line).world.moment ≡ w.moment + 1
taken_moment limits w line = by (length line == 0)
  where
    by : (empty : Bool) → (if empty then (record { world = at_line w; lines = [] }) else done_as limits (at_line w) (step_spelled line)).world.moment ≡ w.moment + 1
    by true = refl
    by false = as_moment limits (at_line w) (step_spelled line)

pub moment_is_lines : MomentIsLines
moment_is_lines limits w [] = omega arith
moment_is_lines limits w (line ∷ lines) = omega (arith, moment_is_lines limits (taken limits w line).world lines, taken_moment limits w line)

-- ---- the last container

pub last_grows : LastGrows
last_grows limits w name = grows_on w (at_line w) (loaded_last limits w name).world (at_line_grows w) (by (is_beyond (at_line w).opened name))
  where
    by : (full : Bool) → Grows (at_line w) (if full then does (says (at_line w) (turned_away_line name TooManyDocuments ∷ [])) None (at_line w)
        else does (end_effect limits (readied (at_line w) name) name) (Some name) (readied (at_line w) name)).world
    by true = changed_grows (says (at_line w) (turned_away_line name TooManyDocuments ∷ [])) None (at_line w) (keeps_self w.store)
    by false =
        let r = readied (at_line w) name in
        grows_on (at_line w) r (changed (end_effect limits r name) (Some name) r) (readied_grows (at_line w) name)
        (changed_grows (end_effect limits r name) (Some name) r (keeps_self r.store))
