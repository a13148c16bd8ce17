-- A step on a desk: what it does on the lane of its document is what the world's table says.
use Rattle.std.proofs.Common.{◌≡◌, ℕ, Bool, true, false, cond, if◌then◌else◌, List, [], ◌∷◌, Some, None, Result, Ok, Err, bytes_eq, refl, sym, ap, subst, ◌∙◌}
use Rattle.std.specs.Prelude.{IsSome, is_some}
use Rattle.std.specs.FinMap.{get, insert}
use Rattle.std.proofs.lemmas.Slice.Eq.{bytes_eq-Decides}
use Rattle.fluid_table.proofs.Places.{get_inserted, same_values}
use Rattle.fluid_rules.specs.declared.limits.Limits.{Limits}
use Rattle.fluid_lane.specs.Standing.{Standing}
use Rattle.fluid_lanes.specs.Opened.{Opened, with_lane}
use Rattle.fluid_lanes.specs.Using.{Uses, IsOneTooMany}
use Rattle.fluid_lanes.proofs.Openings.{is_used}
use Rattle.fluid_voice.specs.Ends.{is_beyond}
use Rattle.fluid_voice.specs.declared.refusals.ConnectRefusal.TheVariants.{TooManyDocuments}
use Rattle.fluid_steps.specs.declared.steps.Step.{Step}
use Rattle.fluid_transcript.specs.World.{World, document, is_open, says, grown, does, Told}
use Rattle.fluid_transcript.specs.Lines.{turned_away_line}
use Rattle.fluid_transcript.specs.Steps.{about, effect, beyond}
use Rattle.fluid_transcript.specs.Transcript.{readied, done_in, done_on, done}
use Rattle.fluid_desk.specs.declared.stop.Stop.{Stop}
use Rattle.fluid_store.specs.Storing.{Storing}
use Rattle.fluid_desk.specs.Scribing.{ActDoesWith, DeskDoesWith}
use Rattle.fluid_desk.specs.Stands.{IsLaneOf, IsDocument, DeskStands, StoreStands}
use Rattle.fluid_desk.specs.Stopping.{MayStop}
use Rattle.fluid_desk.specs.Acting.{IsLine, ActDoes, DeskDoes, IsReadied, IsUnready}
use Rattle.fluid_desk.proofs.Honest.{may_want, may_act, may_more}
use Rattle.fluid_desk.proofs.Desks.{lane_there, acts, stays_desk}
use Rattle.fluid_log.specs.Shelving.{keeper_under}
use Rattle.fluid_desk.proofs.Opening.{opened_world, uses, too_many}

-- ---- the world behind a first use

pub readied_moment : (w : World) (name : List ℕ) → (readied w name).moment ≡ w.moment
readied_moment w name = by (is_open w name)
  where
    by : (b : Bool) → (if b then w else opened_world w name).moment ≡ w.moment
    by true = refl
    by false = refl

-- the open lane of a document of a desk stands for it
pub lane_of_desk : (o : Opened) (w : World) (name : List ℕ) (lane : Standing) → DeskStands o w → get o.lanes name ≡ Some lane → (is_open w name ≡ true) × IsLaneOf o.limits lane (document w name)
lane_of_desk o w name lane desk there =
    lane_there o.limits lane (keeper_under desk.held name) (is_open w name) (document w name)
    (subst (λ l. IsDocument o.limits l (keeper_under desk.held name) (is_open w name) (document w name)) there (desk.documents name))

-- ---- a first use, by its answer

pub used_of : (old mid : Opened) (name : List ℕ) (moment : ℕ) (b : Bool) → b ≡ true → IsReadied name moment old mid b → Uses {A = Unit {0}} name moment old mid (Ok tt)
used_of old mid name moment true is used = used
used_of old mid name moment false is many = absurd (cc)

pub many_of : (old mid : Opened) (name : List ℕ) (moment : ℕ) (b : Bool) → b ≡ false → IsReadied name moment old mid b → (count : ℕ) × IsOneTooMany name old mid count
many_of old mid name moment true is used = absurd (cc)
many_of old mid name moment false is many = many

pub used_there : (old mid : Opened) (name : List ℕ) (moment : ℕ) (b : Bool) → b ≡ true → IsReadied name moment old mid b → IsSome (get mid.lanes name)
used_there old mid name moment b is used = is_used name moment old mid (used_of old mid name moment b is used)

-- ---- a step

-- by whether its document is one too many
pub done_within : (limits : Limits) (w : World) (name : List ℕ) (step : Step) → about w step ≡ Some name → is_beyond w.opened name ≡ false → done limits w step ≡ done_in limits (readied w name) name step
done_within limits w name step is within =
    ap (λ o. done_on limits w o step) is ∙ ap (λ b. if b then does (beyond limits w name step) None w else done_in limits (readied w name) name step) within

pub done_beyond : (limits : Limits) (w : World) (name : List ℕ) (step : Step) → about w step ≡ Some name → is_beyond w.opened name ≡ true → done limits w step ≡ does (beyond limits w name step) None w
done_beyond limits w name step is beyond_is =
    ap (λ o. done_on limits w o step) is ∙ ap (λ b. if b then does (beyond limits w name step) None w else done_in limits (readied w name) name step) beyond_is

-- one whose document wasn't opened
pub may_unready : (limits : Limits) (w : World) (name : List ℕ) (o : Opened) (step : Step) (stop : Stop) → about w step ≡ Some name → IsUnready w name o stop → MayStop (done limits w step).world o stop
may_unready limits w name o step stop is unready =
    subst (λ (t : Told). MayStop t.world o stop) (sym (done_within limits w name step is unready.within))
    (may_more (readied w name) o (effect limits (readied w name) (document (readied w name) name) step) name stop unready.may)

-- what a step owes on the lane of its document, whatever the world is otherwise
abbrev pub DoesOnLane : Limits → (name : List ℕ) → (moment : ℕ) → Step → (old new : Standing) → Result (List ℕ) Stop → Type 0
DoesOnLane limits name moment step old new result =
    (v : World) → v.moment ≡ moment → IsLaneOf limits old (document v name) → ActDoes limits (effect limits v (document v name) step) (document v name) new result

-- its document is open now, and its lane was left so
pub steps_on : (old mid : Opened) (w : World) (name : List ℕ) (moment : ℕ) (step : Step) (before after : Standing) (result : Result (List ℕ) Stop) → DeskStands old w → w.moment ≡ moment → about w step ≡ Some name
    → Uses {A = Unit {0}} name moment old mid (Ok tt) → mid.limits ≡ old.limits → get mid.lanes name ≡ Some before → DoesOnLane old.limits name moment step before after result
    → DeskDoes (done old.limits w step) (with_lane mid name after) result
steps_on old mid w name moment step before after result desk at is used limits there does_it =
    let ready = uses old mid w name moment desk at used in
    let v = readied w name in
    let own = lane_of_desk mid v name before ready.stands there in
    let did = does_it v (readied_moment w name ∙ at) (subst (λ l. IsLaneOf l before (document v name)) limits own.1) in
    subst (λ t. DeskDoes t (with_lane mid name after) result) (sym (done_within old.limits w name step is ready.within)) (by v ready.stands own.0 result did)
  where
    by : (v : World) → DeskStands mid v → is_open v name ≡ true → (r : Result (List ℕ) Stop) → ActDoes old.limits (effect old.limits v (document v name) step) (document v name) after r
        → DeskDoes (done_in old.limits v name step) (with_lane mid name after) r
    by v stands opened (Ok line) did = record {
      stands = acts mid v name after (effect old.limits v (document v name) step) stands (ap is_some there) opened
          (subst (λ l. IsLaneOf l after (grown (effect old.limits v (document v name) step) (document v name))) (sym limits) did.stands);
      says = did.says;
    }
    by v stands opened (Err stop) did = may_act v mid name after (effect old.limits v (document v name) step) stop did

-- or one too many, which is said
pub steps_away : (old new : Opened) (w : World) (name : List ℕ) (step : Step) (count : ℕ) (result : Result (List ℕ) Stop) → DeskStands old w → about w step ≡ Some name
    → beyond old.limits w name step ≡ says w (turned_away_line name TooManyDocuments ∷ []) → IsOneTooMany name old new count → IsLine (turned_away_line name TooManyDocuments) result → DeskDoes (done old.limits w step) new result
steps_away old new w name step count result desk is says_so many line =
    let beyond_is = too_many old new w name count desk many in
    subst (λ t. DeskDoes t new result) (sym (done_beyond old.limits w name step is beyond_is.0 ∙ ap (λ e. does e None w) says_so)) (by result line)
  where
    by : (r : Result (List ℕ) Stop) → IsLine (turned_away_line name TooManyDocuments) r → DeskDoes (does (says w (turned_away_line name TooManyDocuments ∷ [])) None w) new r
    by (Ok text) line = record {
      stands = stays_desk new w (says w (turned_away_line name TooManyDocuments ∷ [])) (too_many old new w name count desk many).1;
      says = ap (λ l. l ∷ []) (sym line);
    }
    by (Err stop) line = may_want w new stop line

-- ---- the same of a step that uses the store

readied_store : (w : World) (name : List ℕ) → (readied w name).store ≡ w.store
readied_store w name = by (is_open w name)
  where
    by : (b : Bool) → (if b then w else opened_world w name).store ≡ w.store
    by true = refl
    by false = refl

abbrev pub DoesOnLaneWith : Limits → (name : List ℕ) → (moment : ℕ) → Step → (old new : Standing) → (before now : Storing) → Result (List ℕ) Stop → Type 0
DoesOnLaneWith limits name moment step old new before now result =
    (v : World) → v.moment ≡ moment → IsLaneOf limits old (document v name) → StoreStands before v → ActDoesWith limits (effect limits v (document v name) step) (document v name) new now result

pub steps_on_with : (old mid : Opened) (w : World) (name : List ℕ) (moment : ℕ) (step : Step) (one other : Standing) (before now : Storing) (result : Result (List ℕ) Stop) → DeskStands old w → StoreStands before w → w.moment ≡ moment
    → about w step ≡ Some name → Uses {A = Unit {0}} name moment old mid (Ok tt) → mid.limits ≡ old.limits → get mid.lanes name ≡ Some one → DoesOnLaneWith old.limits name moment step one other before now result
    → DeskDoesWith (done old.limits w step) (with_lane mid name other) now result
steps_on_with old mid w name moment step one other before now result desk store at is used limits there does_it =
    let ready = uses old mid w name moment desk at used in
    let v = readied w name in
    let own = lane_of_desk mid v name one ready.stands there in
    let did = does_it v (readied_moment w name ∙ at) (subst (λ l. IsLaneOf l one (document v name)) limits own.1) (store ∙ ap Some (sym (readied_store w name))) in
    subst (λ t. DeskDoesWith t (with_lane mid name other) now result) (sym (done_within old.limits w name step is ready.within)) (by v ready.stands own.0 result did)
  where
    by : (v : World) → DeskStands mid v → is_open v name ≡ true → (r : Result (List ℕ) Stop) → ActDoesWith old.limits (effect old.limits v (document v name) step) (document v name) other now r
        → DeskDoesWith (done_in old.limits v name step) (with_lane mid name other) now r
    by v stands opened (Ok line) did = record {
      done = record {
        stands = acts mid v name other (effect old.limits v (document v name) step) stands (ap is_some there) opened
            (subst (λ l. IsLaneOf l other (grown (effect old.limits v (document v name) step) (document v name))) (sym limits) did.acts.stands);
        says = did.acts.says;
      };
      held = did.held;
    }
    by v stands opened (Err stop) did = may_act v mid name other (effect old.limits v (document v name) step) stop did

pub steps_away_with : (old new : Opened) (w : World) (name : List ℕ) (step : Step) (count : ℕ) (store : Storing) (result : Result (List ℕ) Stop) → DeskStands old w → StoreStands store w → about w step ≡ Some name
    → beyond old.limits w name step ≡ says w (turned_away_line name TooManyDocuments ∷ []) → IsOneTooMany name old new count → IsLine (turned_away_line name TooManyDocuments) result
    → DeskDoesWith (done old.limits w step) new store result
steps_away_with old new w name step count store result desk held is says_so many line =
    let beyond_is = too_many old new w name count desk many in
    subst (λ t. DeskDoesWith t new store result) (sym (done_beyond old.limits w name step is beyond_is.0 ∙ ap (λ e. does e None w) says_so)) (by result line)
  where
    by : (r : Result (List ℕ) Stop) → IsLine (turned_away_line name TooManyDocuments) r → DeskDoesWith (does (says w (turned_away_line name TooManyDocuments ∷ [])) None w) new store r
    by (Ok text) line = record {
      done = record { stands = stays_desk new w (says w (turned_away_line name TooManyDocuments ∷ [])) (too_many old new w name count desk many).1; says = ap (λ l. l ∷ []) (sym line) };
      held = held;
    }
    by (Err stop) line = may_want w new stop line

-- a lane that was lent and left as it was
pub left_same : (o : Opened) (name : List ℕ) (lane : Standing) → get o.lanes name ≡ Some lane → with_lane o name lane ≡ o
left_same o name lane there = ap (λ lanes. record o { lanes = lanes }) (same_values (insert o.lanes name lane) o.lanes (λ q. get_inserted o.lanes name lane q ∙ by q (bytes_eq q name) refl))
  where
    by : (q : List ℕ) (b : Bool) → bytes_eq q name ≡ b → cond b (Some lane) (get o.lanes q) ≡ get o.lanes q
    by q true is = sym (ap (get o.lanes) ((bytes_eq-Decides q name).0 is) ∙ there)
    by q false is = refl
