-- A join of a container's client, on the lane of its document.
use Rattle.std.proofs.Common.{◌≡◌, inl, inr, ℕ, ◌+◌, ◌≤◌, arith, Bool, true, false, if◌then◌else◌, List, [], ◌∷◌, ◌++◌, length, Option, None, is_some, Result, Ok, Err, refl, sym, ap, subst, ◌∙◌, append-nil}
use Rattle.std.specs.Prelude.{IsSome}
use Rattle.std.proofs.lemmas.List.{length-map}
use Rattle.fluid_json.specs.Tree.{Tree, null}
use Rattle.fluid_types.specs.Names.{entry_name}
use Rattle.fluid_types.specs.Fits.{Fits}
use Rattle.fluid_types.specs.declared.entries.Raw.{Raw}
use Rattle.fluid_types.specs.declared.entries.Raw.TheVariants.{Join}
use Rattle.fluid_types.specs.declared.messages.Message.{Message}
use Rattle.fluid_types.specs.declared.verdicts.Verdict.{Verdict}
use Rattle.fluid_types.specs.declared.verdicts.Verdict.TheVariants as verdicts
use Rattle.fluid_types.specs.Ledger.{raws}
use Rattle.fluid_rules.specs.Rules.{verdict, ledger as ledger_by_rules}
use Rattle.fluid_rules.specs.Counted.{is_full, has_too_many_clients}
use Rattle.fluid_rules.specs.declared.limits.Limits.{Limits}
use Rattle.fluid_rules.proofs.Legal.{ledger-raws}
use Rattle.fluid_store.specs.Held.{Held}
use Rattle.fluid_store.specs.Storing.{Storing}
use Rattle.fluid_lane.specs.declared.fault.LaneFault.{LaneFault}
use Rattle.fluid_lane.specs.declared.fault.LaneFault.TheVariants as lanes
use Rattle.fluid_lane.specs.declared.steps.Step.{Step}
use Rattle.fluid_lane.specs.Steps.{asides, ledger}
use Rattle.fluid_lane.specs.Standing.{Standing, Goes}
use Rattle.fluid_voice.specs.declared.actions.Act.{Act}
use Rattle.fluid_voice.specs.declared.actions.Act.TheVariants as act
use Rattle.fluid_voice.specs.declared.ends.ActEnd.{ActEnd}
use Rattle.fluid_voice.specs.declared.ends.ActEnd.TheVariants as end
use Rattle.fluid_voice.specs.declared.refusals.ConnectRefusal.{ConnectRefusal}
use Rattle.fluid_voice.specs.Ends.{Outcome, outcome, join_end, join_of, joined_by}
use Rattle.fluid_voice.specs.Ends.Outcome.{ends}
use Rattle.fluid_ends.specs.Asking.{found_in}
use Rattle.fluid_ends.specs.declared.fault.TalkFault.{TalkFault}
use Rattle.fluid_ends.specs.declared.fault.TalkFault.TheVariants as talk
use Rattle.fluid_acts.specs.AtLane.{OnLane, IsEndAt, IsLaneCause}
use Rattle.fluid_acts.specs.AtStore.{OnStore}
use Rattle.fluid_acts.specs.Doing.{FindsTold, IsEndOf, IsTalkCause}
use Rattle.fluid_transcript.specs.World.{World, Document, ledger_of, with_entries, raws_added}
use Rattle.fluid_transcript.specs.Containers.{all_scopes, join_for, joining, join_refusal, joined_for}
use Rattle.fluid_desk.specs.declared.stop.Stop.TheVariants.{NoMemory}
use Rattle.fluid_desk.specs.Stands.{IsLaneOf}
use Rattle.fluid_desk.specs.Stopping.{IsHonest, steps_on, stop_of}
use Rattle.fluid_desk.proofs.Few.{fault_few, one_aside}
use Rattle.fluid_callers.proofs.Acts.{lane_honest, worn_on}
use Rattle.fluid_callers.proofs.Acted.{leaves}
use Rattle.fluid_callers.proofs.Ends.{delta_few, ended_aside, still_worn}
use Rattle.fluid_door_link.specs.Coursing.{HasStood}
use Rattle.fluid_door_link.specs.Failing as failing
use Rattle.fluid_door_link.specs.declared.fault.LentFault.TheVariants.{Lane}
use Rattle.fluid_containers.specs.Joining.{IsJoining, EndsAs, joining_stop, joined_to, JoinsAs, JoinsLane, LaneJoined}
use Rattle.fluid_containers.specs.Stepping.{LaneLinks}

-- the act of a join
abbrev pub join_act : (name : List ℕ) → ℕ → Act
join_act name moment = act.Connect name true all_scopes null moment

-- ---- how it may end

pub ends_joining : (old : Standing) (name : List ℕ) (moment : ℕ) (e : ActEnd) → IsEndAt old (join_act name moment) e → IsJoining e
ends_joining old name moment (end.Joined id number) at = tt
ends_joining old name moment end.FullNow at = tt
ends_joining old name moment end.TooMany at = tt
ends_joining old name moment end.Said at = absurd at
ends_joining old name moment (end.Told n) at = absurd at
ends_joining old name moment (end.Entered v) at = absurd at
ends_joining old name moment (end.Given r) at = absurd at

same_end : (a b : ActEnd) → ◌≡◌ {A = Outcome} (ends a) (ends b) → a ≡ b
same_end a b same = cc

other_end : (id : List ℕ) (number : ℕ) (v : Verdict) → ◌≡◌ {A = ActEnd} (end.Entered v) (end.Joined id number) → ⊥
other_end id number v same = cc

full_end : (id : List ℕ) (number : ℕ) → ◌≡◌ {A = ActEnd} end.FullNow (end.Joined id number) → ⊥
full_end id number same = cc

many_end : (id : List ℕ) (number : ℕ) → ◌≡◌ {A = ActEnd} end.TooMany (end.Joined id number) → ⊥
many_end id number same = cc

same_id : (a b : List ℕ) (n m : ℕ) → ◌≡◌ {A = ActEnd} (end.Joined a n) (end.Joined b m) → a ≡ b
same_id a b n m same = cc

-- a client that joined has the id of its entry, and its join was sequenced
pub record IsSequenced (own id : List ℕ) (v : Verdict) : Type 0 where
  pub message : Message
  pub is : v ≡ verdicts.Sequenced message
  pub own_is : id ≡ own

by_verdict : (own id : List ℕ) (number : ℕ) (v : Verdict) → joined_by own v ≡ end.Joined id number → IsSequenced own id v
by_verdict own id number (verdicts.Sequenced m) is = record { message = m; is = refl; own_is = sym (same_id own id m.number number is) }
by_verdict own id number (verdicts.Nacked n) is = absurd (other_end id number (verdicts.Nacked n) is)
by_verdict own id number verdicts.Dropped is = absurd (other_end id number verdicts.Dropped is)
by_verdict own id number verdicts.Absorbed is = absurd (other_end id number verdicts.Absorbed is)

by_rules : (full many : Bool) (own id : List ℕ) (number : ℕ) (v : Verdict) → (if full then end.FullNow else if many then end.TooMany else joined_by own v) ≡ end.Joined id number → IsSequenced own id v
by_rules true many own id number v is = absurd (full_end id number is)
by_rules false true own id number v is = absurd (many_end id number is)
by_rules false false own id number v is = by_verdict own id number v is

length_ledger : (entries : List Raw) → length (ledger_by_rules entries) ≡ length entries
unfolding raws
length_ledger entries = sym (length-map (ledger_by_rules entries) (λ (entry : Raw × Verdict). entry.0)) ∙ ap length (ledger-raws entries)

-- ---- on the lane

module _ (limits : Limits) (w : World) (old new : Standing) (d : Document) (of : IsLaneOf limits old d) (name : List ℕ) (moment : ℕ) (at_moment : w.moment ≡ moment) where
  -- it ends as the world says
  ends_as : (e : ActEnd) (store : Storing) (held : Held) → ((l : List Step) (held : Held) → FindsTold (join_act name moment) old l store held → IsEndOf (outcome (found_in old.limits (ledger l) held) (join_act name moment)) (Ok e))
      → joining limits w (ledger_of d) ≡ e
  ends_as e store held named =
      let told : IsSome old.keeping.content = ap is_some of.told in
      ap (λ m. join_end limits (ledger_of d) (join_of (ledger_of d) all_scopes null m)) at_moment
      ∙ ap (λ l. join_end limits l (join_of l all_scopes null moment)) (sym of.entries)
      ∙ ap (λ k. join_end k (ledger of.list) (join_of (ledger of.list) all_scopes null moment)) (sym of.limits_are)
      ∙ same_end (join_end old.limits (ledger of.list) (join_of (ledger of.list) all_scopes null moment)) e (named of.list held (of.stands, told))

  -- the lane stands for the document with the join, where there is one
  stands_as : (raws : List Raw) → IsLaneOf limits new (with_entries raws d) → raws ≡ joined_for limits w d → IsLaneOf limits new (joined_to limits w d)
  stands_as raws stands is =
      subst (λ rs. IsLaneOf limits new (record { raws = d.raws ++ rs; checkpoints = d.checkpoints ++ [] })) is
      (subst (λ checkpoints. IsLaneOf limits new (record { raws = d.raws ++ raws; checkpoints = checkpoints })) (sym (append-nil d.checkpoints)) stands)

  joined_as : (refusal : Option ConnectRefusal) → join_refusal (joining limits w (ledger_of d)) ≡ refusal → (if is_some refusal then [] else join_for w (ledger_of d) ∷ []) ≡ joined_for limits w d
  joined_as refusal is = ap (λ o. if is_some o then [] else join_for w (ledger_of d) ∷ []) (sym is)

  joins_by : (e : ActEnd) (joined : Result (List ℕ) ConnectRefusal) → joining limits w (ledger_of d) ≡ e → IsLaneOf limits new (with_entries (raws_added (ledger_of d) (join_act name moment) (ends e)) d) → IsJoining e → EndsAs e joined
      → LaneJoined limits w d new joined
  joins_by (end.Joined id number) joined is stands may is_so =
      let s = by_rules (is_full limits.entries (ledger_of d) (join_for w (ledger_of d))) (has_too_many_clients limits.clients (ledger_of d) (join_for w (ledger_of d))) (entry_name (length (ledger_of d))) id number
      (verdict (ledger_of d) (join_for w (ledger_of d))) is in
      let taken : join_refusal (joining limits w (ledger_of d)) ≡ None = ap join_refusal is in
      record {
        stands = stands_as (join_of (ledger_of d) all_scopes null moment ∷ []) stands (ap (λ m. join_of (ledger_of d) all_scopes null m ∷ []) (sym at_moment) ∙ joined_as None taken);
        joins = subst (JoinsAs limits w d) (sym is_so) (record { taken = taken; message = s.message; sequenced = s.is; client_is = s.own_is ∙ ap entry_name (length_ledger d.raws) });
      }
  joins_by end.FullNow joined is stands may is_so = record {
    stands = stands_as [] stands (joined_as (join_refusal end.FullNow) (ap join_refusal is));
    joins = subst (JoinsAs limits w d) (sym is_so) (ap join_refusal is);
  }
  joins_by end.TooMany joined is stands may is_so = record {
    stands = stands_as [] stands (joined_as (join_refusal end.TooMany) (ap join_refusal is));
    joins = subst (JoinsAs limits w d) (sym is_so) (ap join_refusal is);
  }
  joins_by end.Said joined is stands may is_so = absurd may
  joins_by (end.Told n) joined is stands may is_so = absurd may
  joins_by (end.Entered v) joined is stands may is_so = absurd may
  joins_by (end.Given r) joined is stands may is_so = absurd may

  pub joins : (e : ActEnd) (joined : Result (List ℕ) ConnectRefusal) (store : Storing) (held : Held) → OnLane (join_act name moment) old new (Ok e)
      → ((l : List Step) (held : Held) → FindsTold (join_act name moment) old l store held → IsEndOf (outcome (found_in old.limits (ledger l) held) (join_act name moment)) (Ok e)) → EndsAs e joined → JoinsLane limits w d new (Ok joined)
  joins e joined store held on named is_so =
      joins_by e joined (ends_as e store held named) (leaves limits old new d of on.added on.goes (on.owes refl) (join_act name moment) e on.adds on.ends) (ends_joining old name moment e on.ends) is_so

-- the lane goes on standing
pub stands_on : (old new : Standing) (name : List ℕ) (moment : ℕ) (e : ActEnd) → OnLane (join_act name moment) old new (Ok e) → HasStood old → HasStood new
stands_on old new name moment e on stood = record {
  list = stood.list ++ on.added;
  stands = on.goes.list stood.list stood.stands;
  told = on.goes.told ∙ stood.told;
  level = on.owes refl;
}

-- and has no more side steps
ended_none : (old new : Standing) {name : List ℕ} {moment : ℕ} (e : ActEnd) → OnLane (join_act name moment) old new (Ok e) → new.sides ≤ old.sides
ended_none old new {name} {moment} e on = omega (arith, on.goes.sides, ended_aside (join_act name moment) e on.added on.adds)

-- ---- why it fails

module _ (old new : Standing) (before now : Storing) (name : List ℕ) (moment : ℕ) where
  pub unjoined_honest : (limits : Limits) (d : Document) (fault : TalkFault) → IsLaneOf limits old d → OnLane (join_act name moment) old new (Err fault) → IsTalkCause (join_act name moment) old new before now fault
      → IsHonest (steps_on d new) (joining_stop fault)
  unjoined_honest limits d (talk.Lane fault) of on cause = lane_honest (steps_on d new) old new on.added fault (worn_on limits old new on.added d of on.goes) on.adds cause.1
  unjoined_honest limits d (talk.Door fault) of on cause = tt
  unjoined_honest limits d (talk.Delta fault) of on cause = tt
  unjoined_honest limits d (talk.Store fault) of on cause = tt
  unjoined_honest limits d talk.NoMemory of on cause = tt

  -- one side step at most
  aside : (fault : LaneFault) → OnLane (join_act name moment) old new (Err (talk.Lane fault)) → new.sides ≤ old.sides + 1
  aside fault on = one_aside old new on.added (subst (λ l. asides l ≤ 1) (sym on.adds) (fault_few fault)) on.goes.sides

  links : {A : Type 0} (fault : LaneFault) → OnLane (join_act name moment) old new (Err (talk.Lane fault)) → before.faults ≤ now.faults → failing.LaneFails old new fault → LaneLinks {A = A} old new before now (Err (stop_of fault))
  links fault on counts cause = record { later = on.goes.later; sides = aside fault on; counts = counts; ends = inr (Lane fault, (refl, cause)) }

  wants : {A : Type 0} → old.keeping.faults ≤ new.keeping.faults → new.sides ≤ old.sides + 1 → before.faults ≤ now.faults → LaneLinks {A = A} old new before now (Err NoMemory)
  wants later sides counts = record { later = later; sides = sides; counts = counts; ends = inl refl }

  no_aside : (added : List Step) → Goes old new added → added ≡ [] → new.sides ≤ old.sides + 1
  no_aside added goes none = let steps = subst (Goes old new) none goes in omega (arith, steps.sides)

  lane_links : {A : Type 0} (fault : LaneFault) → OnLane (join_act name moment) old new (Err (talk.Lane fault)) → before.faults ≤ now.faults → IsLaneCause old new fault → LaneLinks {A = A} old new before now (Err (stop_of fault))
  lane_links (lanes.LogFailed note) on counts cause = links (lanes.LogFailed note) on counts cause
  lane_links (lanes.DeltaFailed note) on counts cause = links (lanes.DeltaFailed note) on counts cause
  lane_links lanes.Worn on counts cause = links lanes.Worn on counts (still_worn old new on.added on.goes on.adds cause)
  lane_links lanes.NoMemory on counts cause = wants on.goes.later (aside lanes.NoMemory on) counts
  lane_links (lanes.Full n) on counts cause = absurd cause
  lane_links lanes.TooManyClients on counts cause = absurd cause
  lane_links (lanes.BadRecord n) on counts cause = absurd cause
  lane_links (lanes.NoCheckpoint k n) on counts cause = absurd cause
  lane_links lanes.CheckpointsFull on counts cause = absurd cause
  lane_links (lanes.BadCheckpoint n f) on counts cause = absurd cause
  lane_links (lanes.TooLarge n) on counts cause = absurd cause

  pub unjoined_links : {A : Type 0} (fault : TalkFault) → OnLane (join_act name moment) old new (Err fault) → OnStore (join_act name moment) before now (Err fault) → IsTalkCause (join_act name moment) old new before now fault
      → LaneLinks {A = A} old new before now (Err (joining_stop fault))
  unjoined_links (talk.Lane fault) on store cause = lane_links fault on store.later cause.1
  unjoined_links (talk.Door fault) on store cause = wants on.goes.later (no_aside on.added on.goes on.adds) store.later
  unjoined_links (talk.Delta fault) on store cause = wants on.goes.later (one_aside old new on.added (subst (λ l. asides l ≤ 1) (sym on.adds) (delta_few fault)) on.goes.sides) store.later
  unjoined_links (talk.Store fault) on store cause = wants on.goes.later (no_aside on.added on.goes on.adds) store.later
  unjoined_links talk.NoMemory on store cause = wants on.goes.later (no_aside on.added on.goes on.adds) store.later

  pub joined_links : {A : Type 0} (e : ActEnd) (a : A) → OnLane (join_act name moment) old new (Ok e) → OnStore (join_act name moment) before now (Ok e) → LaneLinks old new before now (Ok a)
  joined_links e a on store = record { later = on.goes.later; sides = ended_none old new e on; counts = store.later; ends = tt }

-- ---- the act as it is done: its detail is null

module _ (name : List ℕ) (detail : Tree) (moment : ℕ) (none : detail ≡ null) where
  abbrev act_done : Act
  act_done = act.Connect name true all_scopes detail moment

  as_join : (P : Act → Type 0) → P act_done → P (join_act name moment)
  as_join P fact = subst (λ d. P (act.Connect name true all_scopes d moment)) none fact

  pub done_fits : (id : List ℕ) → Fits (Join id all_scopes null moment) → Fits (Join id all_scopes detail moment)
  done_fits id fits = subst (λ d. Fits (Join id all_scopes d moment)) (sym none) fits

  pub done_ends : (old : Standing) (e : ActEnd) → IsEndAt old act_done e → IsJoining e
  done_ends old e at = ends_joining old name moment e (as_join (λ a. IsEndAt old a e) at)

  pub done_lane : (old new : Standing) (result : Result ActEnd TalkFault) → OnLane act_done old new result → OnLane (join_act name moment) old new result
  done_lane old new result on = as_join (λ a. OnLane a old new result) on

  pub done_store : (before now : Storing) (result : Result ActEnd TalkFault) → OnStore act_done before now result → OnStore (join_act name moment) before now result
  done_store before now result on = as_join (λ a. OnStore a before now result) on

  pub done_named : (old : Standing) (store : Storing) (e : ActEnd) → ((l : List Step) (held : Held) → FindsTold act_done old l store held → IsEndOf (outcome (found_in old.limits (ledger l) held) act_done) (Ok e))
      → (l : List Step) (held : Held) → FindsTold (join_act name moment) old l store held → IsEndOf (outcome (found_in old.limits (ledger l) held) (join_act name moment)) (Ok e)
  done_named old store e named = as_join (λ a. (l : List Step) (held : Held) → FindsTold a old l store held → IsEndOf (outcome (found_in old.limits (ledger l) held) a) (Ok e)) named

  pub done_cause : (old new : Standing) (before now : Storing) (fault : TalkFault) → IsTalkCause act_done old new before now fault → IsTalkCause (join_act name moment) old new before now fault
  done_cause old new before now fault cause = as_join (λ a. IsTalkCause a old new before now fault) cause
