-- An entry of a roamer's client, on the lane of its document.
use Rattle.std.proofs.Common.{◌≡◌, ◌+◌, ◌≤◌, arith, List, [], Option, is_some, Ok, Err, refl, sym, ap, subst, ◌∙◌}
use Rattle.std.specs.Prelude.{IsSome}
use Rattle.std.specs.FinMap.{empty}
use Rattle.fluid_types.specs.declared.entries.Raw.{Raw}
use Rattle.fluid_types.specs.declared.nacks.NackRule.{NackRule}
use Rattle.fluid_rules.specs.declared.limits.Limits.{Limits}
use Rattle.fluid_store.specs.Held.{Held}
use Rattle.fluid_store.specs.Storing.{Storing}
use Rattle.fluid_lane.specs.declared.fault.LaneFault.{LaneFault}
use Rattle.fluid_lane.specs.declared.fault.LaneFault.TheVariants as lanes
use Rattle.fluid_lane.specs.declared.steps.Step.{Step}
use Rattle.fluid_lane.specs.Steps.{ledger, asides}
use Rattle.fluid_lane.specs.Standing.{Standing, Goes}
use Rattle.fluid_voice.specs.declared.actions.Act.{Act}
use Rattle.fluid_voice.specs.declared.actions.Act.TheVariants as act
use Rattle.fluid_voice.specs.declared.ends.ActEnd.{ActEnd}
use Rattle.fluid_voice.specs.declared.ends.ActEnd.TheVariants as end
use Rattle.fluid_voice.specs.Ends.{Outcome, outcome, entry_end}
use Rattle.fluid_voice.specs.Ends.Outcome.{ends}
use Rattle.fluid_ends.specs.declared.fault.TalkFault.{TalkFault}
use Rattle.fluid_ends.specs.declared.fault.TalkFault.TheVariants as talk
use Rattle.fluid_ends.specs.Asking.{found_in}
use Rattle.fluid_acts.specs.AtLane.{OnLane, IsEndAt, IsLaneCause}
use Rattle.fluid_acts.specs.Doing.{FindsTold, IsEndOf, IsTalkCause}
use Rattle.fluid_transcript.specs.World.{Document, ledger_of, with_entries}
use Rattle.fluid_transcript.specs.Containers.{submitted_as, refusal_in}
use Rattle.fluid_desk.specs.declared.stop.Stop.TheVariants.{NoMemory}
use Rattle.fluid_desk.specs.Stands.{IsLaneOf}
use Rattle.fluid_desk.specs.Stopping.{stop_of, IsHonest, steps_on}
use Rattle.fluid_desk.proofs.Few.{fault_few, one_aside}
use Rattle.fluid_callers.specs.Ending.{EndsReading, LaneReads}
use Rattle.fluid_callers.proofs.Acts.{lane_honest, worn_on}
use Rattle.fluid_callers.proofs.Acted.{leaves}
use Rattle.fluid_callers.proofs.Ends.{delta_few, ended_aside, still_worn}
use Rattle.fluid_containers.specs.Joining.{joining_stop}
use Rattle.fluid_roamers.specs.Entering.{IsEntering, HasEntered, entered_on}

-- ---- how an entry may end

pub ends_entering : (old : Standing) (raw : Raw) (e : ActEnd) → IsEndAt old (act.Enter raw) e → IsEntering e
ends_entering old raw (end.Entered v) at = tt
ends_entering old raw end.FullNow at = tt
ends_entering old raw end.Said at = absurd at
ends_entering old raw (end.Told n) at = absurd at
ends_entering old raw (end.Joined id n) at = absurd at
ends_entering old raw end.TooMany at = absurd at
ends_entering old raw (end.Given r) at = absurd at

same_end : (a b : ActEnd) → ◌≡◌ {A = Outcome} (ends a) (ends b) → a ≡ b
same_end a b same = cc

module _ (limits : Limits) (old new : Standing) (d : Document) (of : IsLaneOf limits old d) (raw : Raw) where
  -- it ends as the world says
  ends_as : (e : ActEnd) (store : Storing) → ((l : List Step) (held : Held) → FindsTold (act.Enter raw) old l store held → IsEndOf (outcome (found_in old.limits (ledger l) held) (act.Enter raw)) (Ok e))
      → entry_end limits (ledger_of d) raw ≡ e
  ends_as e store named =
      let told : IsSome old.keeping.content = ap is_some of.told in
      ap (λ l. entry_end limits l raw) (sym of.entries)
      ∙ ap (λ k. entry_end k (ledger of.list) raw) (sym of.limits_are)
      ∙ same_end (entry_end old.limits (ledger of.list) raw) e (named of.list empty (of.stands, told))

  pub enters : (e : ActEnd) (rule : Option NackRule) (store : Storing) → OnLane (act.Enter raw) old new (Ok e)
      → ((l : List Step) (held : Held) → FindsTold (act.Enter raw) old l store held → IsEndOf (outcome (found_in old.limits (ledger l) held) (act.Enter raw)) (Ok e)) → rule ≡ refusal_in e
      → HasEntered limits d raw new rule
  enters e rule store on named is =
      let so : entered_on limits d raw ≡ submitted_as (ledger_of d) raw e = ap (submitted_as (ledger_of d) raw) (ends_as e store named) in
      record {
        stands = subst (λ s. IsLaneOf limits new (with_entries s.entries d)) (sym so) (leaves limits old new d of on.added on.goes (on.owes refl) (act.Enter raw) e on.adds on.ends);
        refused = is ∙ ap (λ s. s.refused) (sym so);
      }

-- ---- why an entry fails

module _ (a : Act) (old new : Standing) (before now : Storing) where
  pub unentered_honest : (limits : Limits) (d : Document) (fault : TalkFault) → IsLaneOf limits old d → OnLane a old new (Err fault) → IsTalkCause a old new before now fault → IsHonest (steps_on d new) (joining_stop fault)
  unentered_honest limits d (talk.Lane fault) of on cause = lane_honest (steps_on d new) old new on.added fault (worn_on limits old new on.added d of on.goes) on.adds cause.1
  unentered_honest limits d (talk.Door fault) of on cause = tt
  unentered_honest limits d (talk.Delta fault) of on cause = tt
  unentered_honest limits d (talk.Store fault) of on cause = tt
  unentered_honest limits d talk.NoMemory of on cause = tt

  ends_so : (fault : LaneFault) → OnLane a old new (Err (talk.Lane fault)) → IsLaneCause old new fault → EndsReading old new (stop_of fault)
  ends_so (lanes.LogFailed note) on cause = cause
  ends_so (lanes.DeltaFailed note) on cause = cause
  ends_so lanes.Worn on cause = still_worn old new on.added on.goes on.adds cause
  ends_so lanes.NoMemory on cause = tt
  ends_so (lanes.Full n) on cause = absurd cause
  ends_so lanes.TooManyClients on cause = absurd cause
  ends_so (lanes.BadRecord n) on cause = absurd cause
  ends_so (lanes.NoCheckpoint k n) on cause = absurd cause
  ends_so lanes.CheckpointsFull on cause = absurd cause
  ends_so (lanes.BadCheckpoint n f) on cause = absurd cause
  ends_so (lanes.TooLarge n) on cause = absurd cause

  -- one side step at most
  no_aside : (added : List Step) → Goes old new added → added ≡ [] → new.sides ≤ old.sides + 1
  no_aside added goes none = let steps = subst (Goes old new) none goes in omega (arith, steps.sides)

  wants : {A : Type 0} → old.keeping.faults ≤ new.keeping.faults → new.sides ≤ old.sides + 1 → LaneReads {A = A} old new (Err NoMemory)
  wants later sides = record { later = later; sides = sides; ends = tt }

  pub unentered_reads : {A : Type 0} (fault : TalkFault) → OnLane a old new (Err fault) → IsTalkCause a old new before now fault → LaneReads {A = A} old new (Err (joining_stop fault))
  unentered_reads (talk.Lane fault) on cause =
      record { later = on.goes.later; sides = one_aside old new on.added (subst (λ l. asides l ≤ 1) (sym on.adds) (fault_few fault)) on.goes.sides; ends = ends_so fault on cause.1 }
  unentered_reads (talk.Door fault) on cause = wants on.goes.later (no_aside on.added on.goes on.adds)
  unentered_reads (talk.Delta fault) on cause = wants on.goes.later (one_aside old new on.added (subst (λ l. asides l ≤ 1) (sym on.adds) (delta_few fault)) on.goes.sides)
  unentered_reads (talk.Store fault) on cause = wants on.goes.later (no_aside on.added on.goes on.adds)
  unentered_reads talk.NoMemory on cause = wants on.goes.later (no_aside on.added on.goes on.adds)

  pub entered_reads : {A : Type 0} (e : ActEnd) (x : A) → OnLane a old new (Ok e) → LaneReads old new (Ok x)
  entered_reads e x on = record { later = on.goes.later; sides = omega (arith, on.goes.sides, ended_aside a e on.added on.adds); ends = tt }
