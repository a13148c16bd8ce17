-- A submission on the lane of the document.
use Rattle.std.proofs.Common.{◌≡◌, ℕ, Bool, true, false, if◌then◌else◌, List, [], ◌∷◌, Option, Some, None, Result, Ok, Err, refl, sym, ap, subst, ◌∙◌, append-nil}
use Rattle.std.specs.Prelude.{IsSome, is_some}
use Rattle.std.specs.FinMap.{get}
use Rattle.fluid_types.specs.declared.entries.Raw.{Raw}
use Rattle.fluid_types.specs.declared.entries.Raw.TheVariants.{Join, Leave, Submit, Report}
use Rattle.fluid_types.specs.declared.verdicts.Verdict.{Verdict}
use Rattle.fluid_rules.specs.Rules.{verdict, ledger}
use Rattle.fluid_rules.specs.Counted as counting
use Rattle.fluid_rules.specs.declared.limits.Limits.{Limits}
use Rattle.fluid_core.specs.Entering.{verdict_in}
use Rattle.fluid_lane.specs.declared.fault.LaneFault.{LaneFault}
use Rattle.fluid_lane.specs.declared.fault.LaneFault.TheVariants as lane
use Rattle.fluid_lane.specs.Faults.{IsCausedBy, IsLogFailed, IsOutside}
use Rattle.fluid_lane.specs.Steps.{entered_by}
use Rattle.fluid_lane.specs.Standing.{Standing, IsLeaveOrSubmission, Goes}
use Rattle.fluid_lane.specs.Refusals.{IsGated, is_full_for, first_refusal}
use Rattle.fluid_lanes.specs.Opened.{Opened, with_lane}
use Rattle.fluid_voice.specs.declared.actions.Act.TheVariants.{Enter}
use Rattle.fluid_voice.specs.declared.ends.ActEnd.{ActEnd}
use Rattle.fluid_voice.specs.declared.ends.ActEnd.TheVariants.{Entered, FullNow}
use Rattle.fluid_voice.specs.Ends.{entry_end}
use Rattle.fluid_voice.specs.Ends.Outcome.{ends}
use Rattle.fluid_transcript.specs.World.{World, Document, document, is_open, ledger_of, Effect, grown, changed}
use Rattle.fluid_transcript.specs.Connections.{effect_of, found_by, behind_act, hear_act, hearing}
use Rattle.fluid_desk.specs.declared.stop.Stop.{Stop}
use Rattle.fluid_desk.specs.Stands.{IsLaneOf, DeskStands}
use Rattle.fluid_desk.specs.Stopping.{LaneEndsBy}
use Rattle.fluid_desk.proofs.Laned.{says as lane_of, entered, same}
use Rattle.fluid_desk.proofs.Gates as gates
use Rattle.fluid_desk.proofs.Steps.{worn_ends}
use Rattle.fluid_desk.proofs.Desks.{acts}
use Rattle.fluid_desk.proofs.Doing.{lane_of_desk}
use Rattle.fluid_desk.proofs.Honest.{worn_same, may_lent}
use Rattle.fluid_workload.specs.Working.{work, named, behind_entry}
use Rattle.fluid_turns.specs.Entering.{IsSubmission, unentered_by, with_entry, HasEntered, EntersLane, EntersDesk}

pub submission_kind : (raw : Raw) → IsSubmission raw → IsLeaveOrSubmission raw
submission_kind (Submit id submission moment) is = tt
submission_kind (Join id scopes detail moment) is = absurd is
submission_kind (Leave id moment) is = absurd is
submission_kind (Report summary found moment) is = absurd is

-- ---- on a lane

-- whether the document is full for it
abbrev full_for : Limits → Document → Raw → Bool
full_for limits d raw = counting.is_full limits.entries (ledger_of d) raw

module _ (limits : Limits) (old new : Standing) (d : Document) (raw : Raw) (of : IsLaneOf limits old d) where
  rule_is : is_full_for old raw ≡ (full_for limits d raw, lane.Full old.limits.entries)
  rule_is = subst (λ l. is_full_for old raw ≡ (counting.is_full l.entries (ledger_of d) raw, lane.Full old.limits.entries)) of.limits_are ((lane_of limits old d of).full raw)

  gated : {A : Type 0} (result : Result A LaneFault) → IsGated old new (is_full_for old raw ∷ []) IsOutside result
      → IsGated old new ((full_for limits d raw, lane.Full old.limits.entries) ∷ []) IsOutside result
  gated result gate = subst (λ rule. IsGated old new (rule ∷ []) IsOutside result) rule_is gate

  pub taken : (v : Verdict) → Goes old new (entered_by raw v) → new.owed ≡ false → v ≡ verdict_in old.entries.state raw → IsGated old new (is_full_for old raw ∷ []) IsOutside (Ok v)
      → HasEntered limits d raw new (Some v)
  taken v goes level said gate =
      let own = said ∙ (lane_of limits old d of).verdict raw in
      record {
        stands = entered limits old d of new raw v goes level own;
        verdict_is = (
          ap (λ b. if b then FullNow else Entered (verdict (ledger_of d) raw)) (gates.answered old new (lane.Full old.limits.entries) IsOutside v (full_for limits d raw) (gated (Ok v) gate))
              ∙ ap Entered (sym own),
          own,
        );
      }

  refused : (most : ℕ) → IsGated {A = Verdict} old new (is_full_for old raw ∷ []) IsOutside (Err (lane.Full most)) → HasEntered limits d raw new None
  refused most gate =
      let full = gates.refused {A = Verdict} old new (lane.Full old.limits.entries) (lane.Full most) IsOutside (full_for limits d raw) (gated (Err (lane.Full most)) gate) (λ is. cc) (λ is. is) (λ may. may) in
      record {
        stands =
            subst (λ s. IsLaneOf limits s (with_entry d raw None))
            (sym (gate.unasked (subst (λ rule. IsSome (first_refusal (rule ∷ []))) (sym rule_is) (subst (λ b. IsSome (first_refusal ((b, lane.Full old.limits.entries) ∷ []))) (sym full.0) refl)) of.level))
            (same limits old d of);
        verdict_is = ap (λ b. if b then FullNow else Entered (verdict (ledger_of d) raw)) full.0;
      }

  passed : (fault : LaneFault) → (fault ≡ lane.Worn → ⊥) → (fault ≡ lane.Full old.limits.entries → ⊥) → IsGated {A = Verdict} old new (is_full_for old raw ∷ []) IsOutside (Err fault) → (IsLogFailed fault → ⊥) → IsOutside fault
  passed fault fresh other gate no_log =
      (gates.passed {A = Verdict} old new (lane.Full old.limits.entries) fault IsOutside (full_for limits d raw) (gated (Err fault) gate) fresh no_log other).1

  pub unentered_does : (fault : LaneFault) → IsGated {A = Verdict} old new (is_full_for old raw ∷ []) IsOutside (Err fault) → EntersLane limits d raw new (unentered_by fault)
  unentered_does (lane.Full most) gate = refused most gate
  unentered_does (lane.LogFailed note) gate = tt
  unentered_does (lane.DeltaFailed note) gate = tt
  unentered_does lane.NoMemory gate = tt
  unentered_does lane.Worn gate = worn_same limits old new d of (gates.worn_one {A = Verdict} old new (lane.Full old.limits.entries) IsOutside (is_full_for old raw).0 gate (λ is. cc) (λ may. may))
  unentered_does (lane.BadRecord place) gate = passed (lane.BadRecord place) (λ is. cc) (λ is. cc) gate (λ is. is)
  unentered_does (lane.BadCheckpoint number fault) gate = passed (lane.BadCheckpoint number fault) (λ is. cc) (λ is. cc) gate (λ is. is)
  unentered_does (lane.NoCheckpoint asked stored) gate = passed (lane.NoCheckpoint asked stored) (λ is. cc) (λ is. cc) gate (λ is. is)
  unentered_does lane.CheckpointsFull gate = passed lane.CheckpointsFull (λ is. cc) (λ is. cc) gate (λ is. is)
  unentered_does (lane.TooLarge bytes) gate = passed (lane.TooLarge bytes) (λ is. cc) (λ is. cc) gate (λ is. is)
  unentered_does lane.TooManyClients gate = passed lane.TooManyClients (λ is. cc) (λ is. cc) gate (λ is. is)

-- why it ends, on every lane
module _ (old new : Standing) (raw : Raw) where
  abbrev Gate : LaneFault → Type 0
  Gate fault = IsGated {A = Verdict} old new (is_full_for old raw ∷ []) IsOutside (Err fault)

  never : (fault : LaneFault) → Gate fault → (fault ≡ lane.Worn → ⊥) → (fault ≡ lane.Full old.limits.entries → ⊥) → (IsLogFailed fault → ⊥) → IsOutside fault
  never fault gate fresh other no_log =
      (gates.passed {A = Verdict} old new (lane.Full old.limits.entries) fault IsOutside (is_full_for old raw).0 gate fresh no_log other).1

  pub unentered_runs : (fault : LaneFault) → Gate fault → IsCausedBy old.keeping.faults new.keeping.faults fault → LaneEndsBy old new (unentered_by fault)
  unentered_runs (lane.Full most) gate cause = tt
  unentered_runs (lane.LogFailed note) gate cause = cause
  unentered_runs (lane.DeltaFailed note) gate cause = cause
  unentered_runs lane.NoMemory gate cause = tt
  unentered_runs lane.Worn gate cause =
      let worn = gates.worn_one {A = Verdict} old new (lane.Full old.limits.entries) IsOutside (is_full_for old raw).0 gate (λ is. cc) (λ may. may) in
      worn_ends old new worn
  unentered_runs (lane.BadRecord place) gate cause = tt
  unentered_runs (lane.BadCheckpoint number fault) gate cause = tt
  unentered_runs (lane.NoCheckpoint asked stored) gate cause = absurd (never (lane.NoCheckpoint asked stored) gate (λ is. cc) (λ is. cc) (λ is. is))
  unentered_runs lane.CheckpointsFull gate cause = absurd (never lane.CheckpointsFull gate (λ is. cc) (λ is. cc) (λ is. is))
  unentered_runs (lane.TooLarge bytes) gate cause = absurd (never (lane.TooLarge bytes) gate (λ is. cc) (λ is. cc) (λ is. is))
  unentered_runs lane.TooManyClients gate cause = absurd (never lane.TooManyClients gate (λ is. cc) (λ is. cc) (λ is. is))

-- ---- on a desk

module _ (limits : Limits) (w : World) (client : ℕ) (raw : Raw) where
  -- what the connection of a client does whose entry ends so
  abbrev pub heard_so : ActEnd → Effect
  heard_so out =
      effect_of (named client) (behind_act (named client) (found_by limits w.opened (document w work) (hearing w (named client))) (Enter raw) (hearing w (named client)) (ends out))

  pub effect_is : (out : ActEnd) → entry_end limits (ledger_of (document w work)) raw ≡ out
      → effect_of (named client) (hear_act limits w.opened (named client) (document w work) (hearing w (named client)) (Enter raw)) ≡ heard_so out
  effect_is out is = ap heard_so (ap (λ raws. entry_end limits (ledger raws) raw) (append-nil (document w work).raws) ∙ is)

  pub entry_is : (out : ActEnd) → entry_end limits (ledger_of (document w work)) raw ≡ out → behind_entry limits w client raw ≡ changed (heard_so out) (Some work) w
  entry_is out is = ap (λ e. changed e (Some work) w) (effect_is out is)

  entered_so : (o : Opened) (new : Standing) (out : ActEnd) → limits ≡ o.limits → DeskStands o w → is_open w work ≡ true → IsSome (get o.lanes work) → entry_end limits (ledger_of (document w work)) raw ≡ out
      → IsLaneOf limits new (grown (heard_so out) (document w work)) → DeskStands (with_lane o work new) (behind_entry limits w client raw)
  entered_so o new out same desk opened there is of =
      subst (DeskStands (with_lane o work new)) (sym (entry_is out is))
      (acts o w work new (heard_so out) desk there opened (subst (λ l. IsLaneOf l new (grown (heard_so out) (document w work))) same of))

  desk_by : (o : Opened) (new : Standing) (said : Option Verdict) → limits ≡ o.limits → DeskStands o w → is_open w work ≡ true → IsSome (get o.lanes work) → HasEntered limits (document w work) raw new said
      → DeskStands (with_lane o work new) (behind_entry limits w client raw)
  desk_by o new None same desk opened there has = entered_so o new FullNow same desk opened there has.verdict_is has.stands
  desk_by o new (Some v) same desk opened there has = entered_so o new (Entered v) same desk opened there has.verdict_is.0 has.stands

  pub enters_desk : (o : Opened) (old new : Standing) (result : Result (Option Verdict) Stop) → limits ≡ o.limits → DeskStands o w → is_open w work ≡ true → get o.lanes work ≡ Some old
      → EntersLane limits (document w work) raw new result → EntersDesk limits w client raw (with_lane o work new) result
  enters_desk o old new (Ok said) limits_are desk opened there has = record { stands = desk_by o new said limits_are desk opened (ap is_some there) has; verdict_is = has.verdict_is }
  enters_desk o old new (Err stop) limits_are desk opened there has = may_lent w o work new stop has

pub enters_named : (limits : Limits) (w : World) (client : ℕ) (raw : Raw) (o : Opened) (name : List ℕ) (old new : Standing) (result : Result (Option Verdict) Stop) → limits ≡ o.limits → DeskStands o w → is_open w work ≡ true → name ≡ work → get o.lanes name ≡ Some old
    → ((d : Document) → IsLaneOf o.limits old d → EntersLane o.limits d raw new result) → EntersDesk limits w client raw (with_lane o name new) result
enters_named limits w client raw o name old new result same desk opened at there does =
    let own = subst (λ n. get o.lanes n ≡ Some old) at there in
    subst (λ n. EntersDesk limits w client raw (with_lane o n new) result) (sym at)
    (enters_desk limits w client raw o old new result same desk opened own
    (subst (λ l. EntersLane l (document w work) raw new result) (sym same) (does (document w work) (lane_of_desk o w work old desk own).1)))
