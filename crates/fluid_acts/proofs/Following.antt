-- Acts one after another: what they add, and a document that stays full.
use Rattle.std.proofs.Common.{◌≡◌, ◌∙◌, ℕ, Bool, true, false, nat_le, ◌&&◌, List, [], ◌∷◌, ◌++◌, length, Option, Some, None, Ok, refl, sym, ap, subst}
use Rattle.std.specs.Prelude.{is_some, IsSome}
use Rattle.fluid_json.specs.Tree.{Tree}
use Rattle.fluid_types.specs.Ledger.{Ledger}
use Rattle.fluid_types.specs.Names.{entry_name}
use Rattle.fluid_types.specs.declared.entries.Scopes.{Scopes}
use Rattle.fluid_types.specs.declared.entries.Raw.{Raw}
use Rattle.fluid_types.specs.declared.entries.Raw.TheVariants.{Join}
use Rattle.fluid_types.specs.declared.verdicts.Verdict.{Verdict}
use Rattle.fluid_types.specs.declared.verdicts.Verdict.TheVariants.{Sequenced}
use Rattle.fluid_rules.specs.Rules.{IsLegal, verdict}
use Rattle.fluid_rules.specs.Counted.{is_counted}
use Rattle.fluid_rules.proofs.Legal.{legal-last}
use Rattle.fluid_store.specs.Held.{Held}
use Rattle.fluid_lane.specs.declared.steps.Step.{Step}
use Rattle.fluid_lane.specs.declared.steps.Step.TheVariants as step
use Rattle.fluid_lane.specs.Steps.{ledger}
use Rattle.fluid_lane.specs.Standing.{Standing, LaneStands, Goes}
use Rattle.fluid_lane.specs.Laws.{LaneSays}
use Rattle.fluid_lane.specs.Refusals.{is_full_for}
use Rattle.fluid_lane.proofs.Listed.{ledger-append}
use Rattle.fluid_voice.specs.declared.actions.Act.{Act}
use Rattle.fluid_voice.specs.declared.actions.Act.TheVariants as act
use Rattle.fluid_voice.specs.declared.ends.ActEnd.{ActEnd}
use Rattle.fluid_voice.specs.declared.ends.ActEnd.TheVariants.{Said, Joined, Told, Entered, FullNow, TooMany, Given}
use Rattle.fluid_voice.specs.Ends.{outcome, added_by, join_of}
use Rattle.fluid_voice.specs.Ends.Outcome.{ends}
use Rattle.fluid_ends.specs.Adding.{AddsBy, IsJoinStep}
use Rattle.fluid_acts.specs.AtLane.{IsEndAt, OnLane}
use Rattle.fluid_acts.specs.Doing.{found_in}
use Rattle.fluid_acts.specs.Parts.{FindsLane}
use Rattle.fluid_acts.specs.Laws.{AddsAsDefined, FullStaysAtLane}
use Rattle.fluid_acts.proofs.Entering.{said}

-- ---- what is added

-- the ledger behind is legal, so that the rules gave the verdict
by_rules : LaneSays → (old new : Standing) (l : List Step) (raw : Raw) (v : Verdict) → Goes old new (step.Entered raw v ∷ []) → FindsLane old l → v ≡ verdict (ledger l) raw
by_rules law old new l raw v goes finds =
    let behind = said law new (l ++ step.Entered raw v ∷ []) (goes.list l finds.0, goes.told ∙ finds.1) in
    legal-last (ledger l) (raw, v) (subst IsLegal (ledger-append l (step.Entered raw v ∷ [])) behind.legal)

-- an end has no other one
abbrev joined_id : ActEnd → List ℕ
joined_id (Joined id number) = id
joined_id end = []

same_entry : (raw other : Raw) (v w : Verdict) → raw ≡ other → v ≡ w → ◌≡◌ {A = Ledger} ((raw, v) ∷ []) ((other, w) ∷ [])
same_entry raw other v w same alike = rw (same, alike) refl

-- the id of a join is that of the number of entries before it
module _ (law : LaneSays) (name : List ℕ) (scopes : Scopes) (detail : Tree) (moment : ℕ) (old new : Standing) (l : List Step) (finds : FindsLane old l) where
  joined_adds : (id : List ℕ) (number : ℕ) (added : List Step) → IsEndAt old (act.Connect name true scopes detail moment) (Joined id number) → IsJoinStep id scopes detail moment number added
      → Goes old new added → ledger added ≡ (join_of (ledger l) scopes detail moment, verdict (ledger l) (join_of (ledger l) scopes detail moment)) ∷ []
  joined_adds id number added at adds goes =
      let named : id ≡ entry_name (length (ledger l)) = at.1.0 ∙ ap entry_name (said law old l finds).entered in
      let same : Join id scopes detail moment ≡ join_of (ledger l) scopes detail moment = ap (λ own. Join own scopes detail moment) named in
      let given = by_rules law old new l (Join id scopes detail moment) (Sequenced adds.message) (subst (Goes old new) adds.is goes) finds in
      ap ledger adds.is ∙ same_entry _ _ _ _ same (given ∙ ap (verdict (ledger l)) same)

nothing_added : (added : List Step) → added ≡ [] → ledger added ≡ []
nothing_added added none = ap ledger none

pub adds_as_defined : LaneSays → AddsAsDefined
adds_as_defined law (act.Say reply) old new end does l held finds is = nothing_added does.added does.adds
adds_as_defined law (act.Enter raw) old new (Entered v) does l held finds is = ap ledger does.adds
adds_as_defined law (act.Enter raw) old new Said does l held finds is = nothing_added does.added does.adds
adds_as_defined law (act.Enter raw) old new (Joined id number) does l held finds is = nothing_added does.added does.adds
adds_as_defined law (act.Enter raw) old new (Told last) does l held finds is = nothing_added does.added does.adds
adds_as_defined law (act.Enter raw) old new FullNow does l held finds is = nothing_added does.added does.adds
adds_as_defined law (act.Enter raw) old new TooMany does l held finds is = nothing_added does.added does.adds
adds_as_defined law (act.Enter raw) old new (Given reply) does l held finds is = nothing_added does.added does.adds
adds_as_defined law (act.Connect name true scopes detail moment) old new (Joined id number) does l held finds is = joined_adds law name scopes detail moment old new l finds id number does.added does.ends does.adds does.goes
adds_as_defined law (act.Connect name false scopes detail moment) old new (Joined id number) does l held finds is = absurd (never does.ends)
  where
    never : {n : ℕ} → ◌≡◌ {A = ActEnd} (Joined id number) (Told n) → ⊥
    never same = cc
adds_as_defined law (act.Connect name true scopes detail moment) old new (Entered v) does l held finds is = absurd does.ends
adds_as_defined law (act.Connect name false scopes detail moment) old new (Entered v) does l held finds is = absurd (never does.ends)
  where
    never : {n : ℕ} → ◌≡◌ {A = ActEnd} (Entered v) (Told n) → ⊥
    never same = cc
adds_as_defined law (act.Connect name write scopes detail moment) old new Said does l held finds is = nothing_added does.added does.adds
adds_as_defined law (act.Connect name write scopes detail moment) old new (Told last) does l held finds is = nothing_added does.added does.adds
adds_as_defined law (act.Connect name write scopes detail moment) old new FullNow does l held finds is = nothing_added does.added does.adds
adds_as_defined law (act.Connect name write scopes detail moment) old new TooMany does l held finds is = nothing_added does.added does.adds
adds_as_defined law (act.Connect name write scopes detail moment) old new (Given reply) does l held finds is = nothing_added does.added does.adds
adds_as_defined law (act.Deltas from to) old new end does l held finds is = nothing_added does.added does.adds
adds_as_defined law (act.Summary asked) old new end does l held finds is = nothing_added does.added does.adds
adds_as_defined law (act.GetObject id) old new end does l held finds is = nothing_added does.added does.adds
adds_as_defined law (act.PutObject bytes) old new end does l held finds is = nothing_added does.added does.adds

-- ---- full documents

both : (a b : Bool) → (a && b) ≡ true → a ≡ true
both true b is = refl
both false b is = is

true_is : {A : Type 0} (b : Bool) → b ≡ true → b ≡ false → A
true_is b one other = cc

still_full : (raw other : Raw) (old between : Standing) → between.limits ≡ old.limits → between.entries ≡ old.entries → (is_full_for old raw).0 ≡ true → is_counted other ≡ true
    → (is_full_for between other).0 ≡ true
still_full raw other old between limits entries full counts =
    rw (limits, entries, both (nat_le old.limits.entries old.entries.counted) (is_counted raw) full, counts) refl

ends_full : (other : Raw) (s : Standing) (end : ActEnd) → (is_full_for s other).0 ≡ true → IsEndAt s (act.Enter other) end → end ≡ FullNow
ends_full other s FullNow full is = refl
ends_full other s (Entered v) full is = true_is _ full is.0
ends_full other s Said full is = absurd is
ends_full other s (Joined id number) full is = absurd is
ends_full other s (Told last) full is = absurd is
ends_full other s TooMany full is = absurd is
ends_full other s (Given reply) full is = absurd is

pub full_stays_at_lane : FullStaysAtLane
full_stays_at_lane raw other old between new end first second counts =
    ends_full other between end (still_full raw other old between first.goes.limits first.entries first.ends counts) second.ends
