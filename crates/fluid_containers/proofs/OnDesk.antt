-- A step of a container, on a desk: what it does on the lane of its document is what the world's table says.
use Rattle.std.proofs.Common.{◌≡◌, inl, inr, ℕ, arith, Bool, true, List, length, Option, Some, Result, Ok, Err, refl, sym, ap, subst, ◌∙◌}
use Rattle.std.specs.Prelude.{is_some, option_and_then, unwrap_or, IfSome}
use Rattle.std.specs.FinMap.{get}
use Rattle.std.proofs.lemmas.List.{length-map}
use Rattle.fluid_table.proofs.Places.{get_own}
use Rattle.fluid_types.specs.Ledger.{raws}
use Rattle.fluid_types.specs.declared.entries.Raw.{Raw}
use Rattle.fluid_types.specs.declared.verdicts.Verdict.{Verdict}
use Rattle.fluid_rules.specs.Rules.{ledger as ledger_by_rules}
use Rattle.fluid_rules.specs.declared.limits.Limits.{Limits}
use Rattle.fluid_rules.proofs.Legal.{ledger-raws}
use Rattle.fluid_store.specs.Storing.{Storing}
use Rattle.fluid_lane.specs.Standing.{Standing}
use Rattle.fluid_lanes.specs.Opened.{Opened, with_lane}
use Rattle.fluid_lanes.specs.Using.{Uses, IsOneTooMany}
use Rattle.fluid_steps.specs.declared.steps.Step.{Step}
use Rattle.fluid_transcript.specs.World.{World, Document, Container, Effect, Name, container, document, is_open, ledger_of, grown, changed, does, new_document, with_name}
use Rattle.fluid_transcript.specs.Sound.{IsSound, IsSoundName, IsSoundContainer, ledger_in}
use Rattle.fluid_transcript.specs.Steps.{about, effect, container_in, shown_in, on_container}
use Rattle.fluid_transcript.specs.Transcript.{done, done_in, readied}
use Rattle.fluid_holding.specs.Laws.{Stands}
use Rattle.fluid_desk.specs.declared.stop.Stop.{Stop}
use Rattle.fluid_desk.specs.Stands.{IsLaneOf, DeskStands, StoreStands}
use Rattle.fluid_desk.proofs.Desks.{acts}
use Rattle.fluid_desk.specs.Stopping.{steps_on, MayStop}
use Rattle.fluid_desk.specs.Acting.{IsUnready}
use Rattle.fluid_desk.proofs.Honest.{honest_more, grown_steps, may_act}
use Rattle.fluid_desk.proofs.Doing.{done_within, lane_of_desk, may_unready}
use Rattle.fluid_desk.proofs.Opening.{uses, open_is_no_more, readied_same}
use Rattle.fluid_callers.proofs.Departing.{never_beyond}
use Rattle.fluid_door_link.specs.Coursing.{HasStood}
use Rattle.fluid_containers.specs.declared.holder.Holder.{Holder}
use Rattle.fluid_containers.specs.Holders.{IsHolderIn, IsHolderOf}
use Rattle.fluid_containers.specs.Stepping.{LaneSteps, LaneStepped, MayStand, NamedBy, Stepped, StepDoes}

-- ---- lanes

-- a lane of a document stands
pub has_stood : (limits : Limits) (s : Standing) (d : Document) → IsLaneOf limits s d → HasStood s
has_stood limits s d of = record { list = of.list; stands = of.stands; told = ap is_some of.told; level = of.level }

-- the lane of a document that was used stands, where the desk did
pub used_stood : (good : Bool) (old mid : Opened) (name : List ℕ) (moment : ℕ) (lane : Standing) → MayStand good old → Uses {A = Unit {0}} name moment old mid (Ok tt) → get mid.lanes name ≡ Some lane → good ≡ true → HasStood lane
used_stood good old mid name moment lane may used there is =
    by (may is)
  where
    by : (w : World) × DeskStands old w → HasStood lane
    by (w, desk) =
        let v : World = record w { moment = moment } in
        let there_stands : DeskStands old v = record { held = desk.held; told = desk.told; documents = desk.documents; count = desk.count; few = desk.few } in
        let own = lane_of_desk mid (readied v name) name lane (uses old mid v name moment there_stands refl used).stands there in
        has_stood mid.limits lane (document (readied v name) name) own.1

-- ---- names

sound_of : (w : World) (n : Option Name) (k : Container) → n ≡ Some (container k) → IfSome n (IsSoundName w) → IsSoundContainer w k
sound_of w n k is sound = subst (λ o. IfSome o (IsSoundName w)) is sound

pub sound_container : (w : World) (p : List ℕ) (k : Container) → IsSound w → get w.names p ≡ Some (container k) → IsSoundContainer w k
sound_container w p k sound named = sound_of w (get w.names p) k named (sound.names p)

length_ledger : (entries : List Raw) → length (ledger_by_rules entries) ≡ length entries
unfolding raws
length_ledger entries = sym (length-map (ledger_by_rules entries) (λ (entry : Raw × Verdict). entry.0)) ∙ ap length (ledger-raws entries)

-- where it stands in its document
pub stands_in : (w : World) (k : Container) → IsSoundContainer w k → Stands (ledger_in w k.document) k
stands_in w k sound = record { entries = omega (arith, sound.entries, length_ledger (document w k.document).raws); base = sound.base; number = sound.number }

named_then : (w : World) (e : Effect) (p : List ℕ) (k now : Container) → get w.names p ≡ Some (container k) → NamedBy e p k now → get (with_name e.name w.names) p ≡ Some (container now)
named_then w e p k now named (inl is) = ap (λ n. get (with_name n w.names) p) is ∙ get_own w.names p (container now)
named_then w e p k now named (inr (none, same)) = ap (λ n. get (with_name n w.names) p) none ∙ named ∙ ap (λ c. Some (container c)) (sym same)

pub document_then : (w : World) (e : Effect) (name : List ℕ) → document (changed e (Some name) w) name ≡ grown e (document w name)
document_then w e name = ap (λ o. unwrap_or o new_document) (get_own w.documents name (grown e (document w name)))

-- ---- the step

-- on a document that is open it is done as it stands
pub opened_step : (limits : Limits) (w : World) (name : List ℕ) (step : Step) → about w step ≡ Some name → is_open w name ≡ true → done limits w step ≡ does (effect limits w (document w name) step) (Some name) w
opened_step limits w name step is opened =
    done_within limits w name step is (open_is_no_more w name opened) ∙ ap (λ v. done_in limits v name step) (readied_same w name opened)

-- a lane of an open document
module _ (old mid : Opened) (w : World) (name : List ℕ) (moment : ℕ) (one : Standing) (desk : DeskStands old w) (at : w.moment ≡ moment) (used : Uses {A = Unit {0}} name moment old mid (Ok tt)) (same : mid.limits ≡ old.limits)
    (there : get mid.lanes name ≡ Some one) (opened : is_open w name ≡ true) where
  pub mid_stands : DeskStands mid w
  mid_stands = subst (DeskStands mid) (readied_same w name opened) (uses old mid w name moment desk at used).stands

  pub own_lane : IsLaneOf old.limits one (document w name)
  own_lane = subst (λ l. IsLaneOf l one (document w name)) same (lane_of_desk mid w name one mid_stands there).1

  pub stepped_on : (p : List ℕ) (k : Container) (e : Effect) (other : Standing) (store : Storing) (h : Holder) (line : List ℕ) → get w.names p ≡ Some (container k) → name ≡ k.document
      → LaneStepped old.limits e (document w name) k p other store h line → Stepped (does e (Some name) w) p (with_lane mid name other) store h line
  stepped_on p k e other store h line named of_name did = record {
    stands = acts mid w name other e mid_stands (ap is_some there) opened (subst (λ l. IsLaneOf l other (grown e (document w name))) (sym same) did.stands);
    held = did.held;
    now = did.now;
    name = named_then w e p k did.now named did.name;
    holder = holder_then;
    says = did.says;
  } where
    document_of : document (changed e (Some name) w) did.now.document ≡ grown e (document w name)
    document_of = ap (document (changed e (Some name) w)) (did.same ∙ sym of_name) ∙ document_then w e name

    holder_then : IsHolderOf (changed e (Some name) w) h did.now
    holder_then = subst (λ d. IsHolderIn (ledger_of d) e.store h did.now) (sym document_of) did.holder

-- by its effect in the world
pub step_on : (old mid : Opened) (w : World) (p name : List ℕ) (moment : ℕ) (step : Step) (k : Container) (e : Effect) (one other : Standing) (before now : Storing) (h left : Holder) (result : Result (List ℕ) Stop)
    → DeskStands old w → StoreStands before w → IsSound w → w.moment ≡ moment → get w.names p ≡ Some (container k) → IsHolderOf w h k → name ≡ h.document → Uses {A = Unit {0}} name moment old mid (Ok tt) → mid.limits ≡ old.limits
    → get mid.lanes name ≡ Some one → about w step ≡ Some k.document → effect old.limits w (document w name) step ≡ e
    → (IsLaneOf old.limits one (document w name) → Stands (ledger_of (document w name)) k → IsHolderIn (ledger_of (document w name)) w.store h k → LaneSteps old.limits e (document w name) k p other now left result)
    → StepDoes (done old.limits w step) p (with_lane mid name other) now left result
step_on old mid w p name moment step k e one other before now h left result desk store sound at named holder own used same there is_about is_effect does_it =
    let of_name : name ≡ k.document = own ∙ holder.document in
    let sounds = sound_container w p k sound named in
    let opened : is_open w name ≡ true = ap (is_open w) of_name ∙ sounds.open_is in
    let lane = own_lane old mid w name moment one desk at used same there opened in
    let stands : Stands (ledger_of (document w name)) k = subst (λ n. Stands (ledger_in w n) k) (sym of_name) (stands_in w k sounds) in
    let held : IsHolderIn (ledger_of (document w name)) w.store h k = subst (λ n. IsHolderIn (ledger_in w n) w.store h k) (sym of_name) holder in
    subst (λ t. StepDoes t p (with_lane mid name other) now left result) (sym (opened_step old.limits w name step (is_about ∙ ap Some (sym of_name)) opened ∙ ap (λ x. does x (Some name) w) is_effect))
    (by opened of_name result (does_it lane stands held))
  where
    by : is_open w name ≡ true → name ≡ k.document → (r : Result (List ℕ) Stop) → LaneSteps old.limits e (document w name) k p other now left r → StepDoes (does e (Some name) w) p (with_lane mid name other) now left r
    by opened of_name (Ok line) did = stepped_on old mid w name moment one desk at used same there opened p k e other now left line named of_name did
    by opened of_name (Err stop) did =
        let d = document w name in may_act w mid name other e stop (honest_more (steps_on d other) (steps_on (grown e d) other) stop (grown_steps e d other) did)

-- its document wasn't opened
pub unstepped : (limits : Limits) (o : Opened) (w : World) (p name : List ℕ) (step : Step) (k : Container) (h : Holder) (stop : Stop) → about w step ≡ Some k.document → IsHolderOf w h k → name ≡ h.document → IsUnready w name o stop
    → MayStop (done limits w step).world o stop
unstepped limits o w p name step k h stop is_about holder own unready = may_unready limits w name o step stop (is_about ∙ ap Some (sym (own ∙ holder.document))) unready

-- a container's document is never one too many
pub never_away : {A : Type 0} (old mid : Opened) (w : World) (p name : List ℕ) (k : Container) (h : Holder) (count : ℕ) → DeskStands old w → IsSound w → get w.names p ≡ Some (container k) → IsHolderOf w h k → name ≡ h.document
    → IsOneTooMany name old mid count → A
never_away old mid w p name k h count desk sound named holder own many =
    absurd (never_beyond old mid w name count desk (ap (is_open w) (own ∙ holder.document) ∙ (sound_container w p k sound named).open_is) many)

-- ---- what the table says of a step of a container

pub about_container : (w : World) (p : List ℕ) (k : Container) → get w.names p ≡ Some (container k) → option_and_then (λ k. Some k.document) (container_in (get w.names p)) ≡ Some k.document
about_container w p k named = ap (λ n. option_and_then (λ (c : Container). Some c.document) (container_in n)) named

pub about_shown : (w : World) (p : List ℕ) (k : Container) → get w.names p ≡ Some (container k) → option_and_then (λ k. Some k.document) (shown_in (get w.names p)) ≡ Some k.document
about_shown w p k named = ap (λ n. option_and_then (λ (c : Container). Some c.document) (shown_in n)) named

pub effect_of : (w : World) (p : List ℕ) (k : Container) (does : Container → Effect) → get w.names p ≡ Some (container k) → on_container w (container_in (get w.names p)) does ≡ does k
effect_of w p k does named = ap (λ n. on_container w (container_in n) does) named
