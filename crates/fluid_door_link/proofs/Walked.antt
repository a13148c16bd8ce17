-- A lane and a store that are lent, from call to call.
use Rattle.std.proofs.Common.{◌≡◌, ℕ, ◌≤◌, arith, Bool, true, false, List, [], ◌++◌, Option, Some, None, is_some, IfSome, MatchOption, refl, sym, ap, subst, ◌∙◌}
use Rattle.fluid_io.specs.declared.faults.FaultNote.{FaultNote}
use Rattle.fluid_deltas.specs.Ranges as ranges
use Rattle.fluid_deltas.specs.declared.fault.DeltaFault.{DeltaFault}
use Rattle.fluid_deltas.specs.declared.fault.DeltaFault.TheVariants as deltas
use Rattle.fluid_store.specs.Storing.{Storing}
use Rattle.fluid_store.specs.declared.fault.StoreFault.{StoreFault}
use Rattle.fluid_store.specs.declared.fault.StoreFault.TheVariants as stores
use Rattle.fluid_lane.specs.declared.fault.LaneFault.{LaneFault}
use Rattle.fluid_lane.specs.declared.fault.LaneFault.TheVariants as lanes
use Rattle.fluid_lane.specs.declared.steps.Step.{Step}
use Rattle.fluid_lane.specs.Steps.{asides, stored}
use Rattle.fluid_lane.specs.Standing.{Standing, Goes}
use Rattle.fluid_lane.proofs.Stands.{goes_nowhere}
use Rattle.fluid_door_link.specs.declared.fault.LentFault.{LentFault}
use Rattle.fluid_door_link.specs.declared.fault.LentFault.TheVariants.{Lane, Deltas, Store}
use Rattle.fluid_door_link.specs.Failing.{LaneFails, DeltasFail, StoreFails, HasCause, IsHonest, IsNoRefusal}
use Rattle.fluid_door_link.specs.Coursing.{HasStood, Along, AddsAside, IsAlong}
use Rattle.fluid_door_link.proofs.Going.{gone_on}
use Rattle.fluid_door_link.proofs.Told.{IsKnown, some_there}

-- ---- a cause since an earlier time

noted : (first before now : ℕ) (note : FaultNote) → first ≤ before → ranges.IsNoted before now note → ranges.IsNoted first now note
noted first before now note le is = record { first = omega (arith, le, is.first); last = is.last; rose = is.rose }

module _ (began lane new : Standing) (later : began.keeping.faults ≤ lane.keeping.faults) where
  lane_since : (fault : LaneFault) → LaneFails lane new fault → LaneFails began new fault
  lane_since (lanes.LogFailed note) is = noted began.keeping.faults lane.keeping.faults new.keeping.faults note later is
  lane_since (lanes.DeltaFailed note) is = noted began.keeping.faults lane.keeping.faults new.keeping.faults note later is
  lane_since lanes.Worn is = is
  lane_since lanes.NoMemory is = is
  lane_since (lanes.Full n) is = is
  lane_since lanes.TooManyClients is = is
  lane_since (lanes.BadRecord n) is = is
  lane_since (lanes.NoCheckpoint k n) is = is
  lane_since lanes.CheckpointsFull is = is
  lane_since (lanes.BadCheckpoint n f) is = is
  lane_since (lanes.TooLarge n) is = is

  deltas_since : (fault : DeltaFault) → DeltasFail lane new fault → DeltasFail began new fault
  deltas_since (deltas.DeltaFailed note) is = noted began.keeping.faults lane.keeping.faults new.keeping.faults note later is
  deltas_since (deltas.BadDelta number) is = is
  deltas_since deltas.Worn is = is
  deltas_since deltas.NoMemory is = is

store_since : (first before now : Storing) → first.faults ≤ before.faults → (fault : StoreFault) → StoreFails before now fault → StoreFails first now fault
store_since first before now le (stores.StoreFailed note) is = record { before = omega (arith, le, is.before); after = is.after; rose = is.rose }
store_since first before now le (stores.Clash id kept bytes) is = is
store_since first before now le (stores.Missing id) is = is
store_since first before now le (stores.BadObject id place) is = is
store_since first before now le (stores.Tree fault) is = is
store_since first before now le (stores.NoPath path) is = is
store_since first before now le stores.NoMemory is = is

cause_since : (began lane new : Standing) (first before now : Storing) → began.keeping.faults ≤ lane.keeping.faults → first.faults ≤ before.faults → (fault : LentFault) → HasCause lane new before now fault
    → HasCause began new first now fault
cause_since began lane new first before now later le (Lane fault) is = lane_since began lane new later fault is
cause_since began lane new first before now later le (Deltas fault) is = deltas_since began lane new later fault is
cause_since began lane new first before now later le (Store fault) is = store_since first before now le fault is

causes_since : (began lane new : Standing) (first before now : Storing) → began.keeping.faults ≤ lane.keeping.faults → first.faults ≤ before.faults → (stop : Option LentFault) → IfSome stop (HasCause lane new before now)
    → IfSome stop (HasCause began new first now)
causes_since began lane new first before now later le None is = tt
causes_since began lane new first before now later le (Some fault) is = cause_since began lane new first before now later le fault is

-- ---- side steps

-- a call that failed added no more than one, and any other none
abbrev pub HasAsides : Option LentFault → List Step → Type 0
HasAsides None added = asides added ≡ 0
HasAsides (Some fault) added = asides added ≤ 1

no_asides : (stop : Option LentFault) → HasAsides stop []
no_asides None = refl
no_asides (Some fault) = omega arith

aside_on : (stop : Option LentFault) (began lane new : Standing) (added : List Step) → lane.sides ≤ began.sides → Goes lane new added → HasAsides stop added → AddsAside stop began new
aside_on None began lane new added before goes few = omega (arith, before, goes.sides, few)
aside_on (Some fault) began lane new added before goes few = omega (arith, before, goes.sides, few)

-- ---- as they are lent

pub begins : (good : Bool) (lane began : Standing) (store before : Storing) → lane ≡ began → store ≡ before → (good ≡ true → HasStood began)
    → IsAlong good began before (record { lane = lane; store = store; stop = None })
begins good lane began store before same held stood =
    subst (λ s. IsAlong good began before (record { lane = s; store = store; stop = None })) (sym same)
    (subst (λ o. IsAlong good began before (record { lane = began; store = o; stop = None })) (sym held) (record {
      gone = record { added = []; goes = goes_nowhere began; unstored = refl };
      sides = omega arith;
      counts = omega arith;
      tells = refl;
      stood = stood;
      level = λ none is. (stood is).level;
      honest = λ is. tt;
      cause = tt;
    }))

-- ---- from call to call

module _ (good : Bool) (began : Standing) (before : Storing) (at : Along) (along : IsAlong good began before at) where
  -- where the lane stood for a list it does so still
  pub known : good ≡ true → IsKnown at.lane
  known is =
      let stood = along.stood is in
      let there = some_there at.lane.keeping.content (along.gone.goes.told ∙ stood.told) in
      record { list = stood.list ++ along.gone.added; stands = along.gone.goes.list stood.list stood.stands; content = there.0; told = there.1 }

  pub went : at.stop ≡ None → (new : Standing) (added : List Step) (now : Storing) (stop : Option LentFault) → Goes at.lane new added → stored added ≡ 0 → HasAsides stop added → at.store.faults ≤ now.faults
      → is_some now.content ≡ is_some at.store.content → (stop ≡ None → good ≡ true → new.owed ≡ false) → (good ≡ true → IfSome stop IsHonest)
      → IfSome stop (HasCause at.lane new at.store now) → IsAlong good began before (record { lane = new; store = now; stop = stop })
  went still new added now stop goes none few later tells level honest cause = record {
    gone = gone_on began at.lane new added along.gone goes none;
    sides = aside_on stop began at.lane new added (subst (λ s. AddsAside s began at.lane) still along.sides) goes few;
    counts = omega (arith, along.counts, later);
    tells = tells ∙ along.tells;
    stood = along.stood;
    level = level;
    honest = honest;
    cause = causes_since began at.lane new before at.store now along.gone.goes.later along.counts stop cause;
  }

  -- the store alone went on
  pub went_store : at.stop ≡ None → (now : Storing) (stop : Option LentFault) → at.store.faults ≤ now.faults → is_some now.content ≡ is_some at.store.content → (good ≡ true → IfSome stop IsHonest)
      → IfSome stop (HasCause at.lane at.lane at.store now) → IsAlong good began before (record { lane = at.lane; store = now; stop = stop })
  went_store none now stop later tells honest cause = went none at.lane [] now stop (goes_nowhere at.lane) refl (no_asides stop) later tells (λ still is. along.level none is) honest cause

  -- the lane alone did
  pub went_lane : at.stop ≡ None → (new : Standing) (added : List Step) (stop : Option LentFault) → Goes at.lane new added → stored added ≡ 0 → HasAsides stop added → (stop ≡ None → good ≡ true → new.owed ≡ false) → (good ≡ true → IfSome stop IsHonest)
      → IfSome stop (HasCause at.lane new at.store at.store) → IsAlong good began before (record { lane = new; store = at.store; stop = stop })
  went_lane still new added stop goes none few level honest cause = went still new added at.store stop goes none few (omega arith) refl level honest cause

-- ---- as a course keeps it

pub at_kept : (a : Along) (lane : Standing) (store : Storing) (stop : Option LentFault) → a ≡ record { lane = lane; store = store; stop = stop } → a ≡ record { lane = lane; store = store; stop = a.stop }
at_kept a lane store stop is = is ∙ ap (λ s. record { lane = lane; store = store; stop = s }) (sym (ap (λ (x : Along). x.stop) is))

pub none_of : (stop : Option LentFault) (b : Bool) → MatchOption stop (b ≡ false) (λ _. b ≡ true) → b ≡ false → stop ≡ None
none_of None b is still = refl
none_of (Some fault) b is still = absurd (apart (sym is ∙ still))
  where
    apart : true ≡ false → ⊥
    apart same = cc

pub none_kept : (a : Along) (lane : Standing) (store : Storing) → a ≡ record { lane = lane; store = store; stop = None } → IsNoRefusal a.stop
none_kept a lane store is = subst IsNoRefusal (sym (ap (λ (x : Along). x.stop) is)) refl

pub stop_kept : (a : Along) (lane : Standing) (store : Storing) (stop : Option LentFault) → a ≡ record { lane = lane; store = store; stop = stop } → IsNoRefusal stop → IsNoRefusal a.stop
stop_kept a lane store stop is none = subst IsNoRefusal (sym (ap (λ (x : Along). x.stop) is)) none
