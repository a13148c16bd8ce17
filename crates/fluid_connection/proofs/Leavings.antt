-- What entering a leave does.
use Rattle.std.proofs.Common.{◌≡◌, ◌∙◌, ℕ, false, List, Result, Ok, Err, refl, sym, subst}
use Rattle.std.proofs.lemmas.Bool.{false≢true}
use Rattle.fluid_turn.specs.Entries.{entries}
use Rattle.fluid_types.specs.Fits.{Fits}
use Rattle.fluid_types.specs.declared.entries.Raw.{Raw}
use Rattle.fluid_types.specs.declared.entries.Raw.TheVariants.{Join, Leave, Submit, Report}
use Rattle.fluid_types.specs.declared.verdicts.Verdict.{Verdict}
use Rattle.fluid_rules.specs.Counted.{is_counted}
use Rattle.fluid_lane.specs.declared.steps.Step.{Step}
use Rattle.fluid_lane.specs.declared.fault.LaneFault.{LaneFault}
use Rattle.fluid_lane.specs.declared.fault.LaneFault.TheVariants as lane
use Rattle.fluid_lane.specs.Steps.{steps_of, entered_by, fault_steps}
use Rattle.fluid_lane.specs.Standing.{IsLeaveOrSubmission}
use Rattle.fluid_doors.specs.Terms.{Doorway}
use Rattle.fluid_doors.specs.Passing.{APass, Grows}
use Rattle.fluid_doors.specs.Answers.{is_worn_behind}
use Rattle.fluid_doors.specs.Entering.{IsSubmitFault, Submits}
use Rattle.fluid_voice.specs.declared.actions.Act.TheVariants as act
use Rattle.fluid_voice.specs.declared.ends.ActEnd.{ActEnd}
use Rattle.fluid_service.specs.Visiting.{Visiting}
use Rattle.fluid_ends.specs.declared.fault.TalkFault.{TalkFault}
use Rattle.fluid_talk.specs.Talking.{Goes}
use Rattle.fluid_connection.specs.Knowing.{knowing}
use Rattle.fluid_connection.specs.Talked.{visited}
use Rattle.fluid_connection.specs.Entering.{ended}
use Rattle.fluid_connection.specs.Leaving.{IsLeave, EntersBy}
use Rattle.fluid_connection.proofs.Passes.{goes_with, fault_open, worn_seen}

leave_uncounted : (raw : Raw) → IsLeave raw → is_counted raw ≡ false
leave_uncounted (Leave id moment) is = refl
leave_uncounted (Join id scopes detail moment) is = absurd is
leave_uncounted (Submit id submission moment) is = absurd is
leave_uncounted (Report summary found moment) is = absurd is

pub leave_kind : (raw : Raw) → IsLeave raw → IsLeaveOrSubmission raw
leave_kind (Leave id moment) is = tt
leave_kind (Join id scopes detail moment) is = is
leave_kind (Submit id submission moment) is = tt
leave_kind (Report summary found moment) is = is

pub leave_fits : (raw : Raw) → IsLeave raw → Fits raw
leave_fits (Leave id moment) is = is
leave_fits (Join id scopes detail moment) is = absurd is
leave_fits (Submit id submission moment) is = absurd is
leave_fits (Report summary found moment) is = absurd is

module _ (name : List ℕ) (p q : APass) (raw : Raw) (is : IsLeave raw) where
  abbrev Says : Result Verdict LaneFault → List Step → Type 0
  Says answer = Submits p.turn.fixed raw answer

  abbrev Grown : Result Verdict LaneFault → Type 0
  Grown answer = Grows p q (steps_of (entered_by raw) answer) (Says answer)

  abbrev Does : Result Verdict LaneFault → Type 0
  Does answer = EntersBy (knowing name p) (knowing name q) raw (ended answer)

  entered_well : (v : Verdict) → Grown (Ok v) → Does (Ok v)
  entered_well v grows = record {
    enters = record {
      found = grows.before;
      begins = grows.begins;
      verdict_is = v;
      goes = goes_with name p q (entered_by raw v) (Says (Ok v)) grows;
      seen = grows.seen;
      told = λ told. (grows.says.told told).is_right;
    };
    entered = refl;
  }

  -- what isn't worn has a cause
  cause_of : (fault : LaneFault) → (fault ≡ lane.Worn → ⊥) → Grown (Err fault) → IsSubmitFault p.turn.fixed raw fault
  cause_of fault other grows = grows.says.named (fault_open Verdict (is_worn_behind (entries grows.before)) fault other grows.says.worn)

  goes_at : (fault : LaneFault) → Grown (Err fault) → Goes (knowing name p) (knowing name q) (fault_steps fault)
  goes_at fault grows = goes_with name p q (fault_steps fault) (Says (Err fault)) grows

  -- a leave isn't counted, so that no limit refuses it
  pub leaves : (answer : Result Verdict LaneFault) → Grown answer → Does answer
  leaves (Ok v) grows = entered_well v grows
  leaves (Err (lane.LogFailed note)) grows = record { goes = goes_at (lane.LogFailed note) grows; cause = cause_of (lane.LogFailed note) (λ same. cc) grows }
  leaves (Err (lane.Full n)) grows = absurd (false≢true (sym (leave_uncounted raw is) ∙ (cause_of (lane.Full n) (λ same. cc) grows).1))
  leaves (Err (lane.BadRecord place)) grows = absurd (cause_of (lane.BadRecord place) (λ same. cc) grows)
  leaves (Err (lane.NoCheckpoint asked stored)) grows = absurd (cause_of (lane.NoCheckpoint asked stored) (λ same. cc) grows)
  leaves (Err lane.CheckpointsFull) grows = absurd (cause_of lane.CheckpointsFull (λ same. cc) grows)
  leaves (Err lane.TooManyClients) grows = absurd (cause_of lane.TooManyClients (λ same. cc) grows)
  leaves (Err (lane.DeltaFailed note)) grows = record { goes = goes_at (lane.DeltaFailed note) grows; cause = cause_of (lane.DeltaFailed note) (λ same. cc) grows }
  leaves (Err lane.NoMemory) grows = record { goes = goes_at lane.NoMemory grows; cause = tt }
  leaves (Err (lane.BadCheckpoint number bad)) grows = absurd (cause_of (lane.BadCheckpoint number bad) (λ same. cc) grows)
  leaves (Err (lane.TooLarge bytes)) grows = absurd (cause_of (lane.TooLarge bytes) (λ same. cc) grows)
  leaves (Err lane.Worn) grows = record { goes = goes_at lane.Worn grows; cause = worn_seen Verdict p q (Says (Err lane.Worn)) grows grows.says.worn }

-- the same of a visit by its parts
pub leaves_back : (visit back : Visiting) (lent door : Doorway) (pass behind : APass) (raw : Raw) (answer : Result ActEnd TalkFault) → lent ≡ door → door ≡ visit.door → pass ≡ visit.pass → back ≡ record { door = door; pass = behind }
    → EntersBy (knowing lent.name pass) (knowing lent.name behind) raw answer → EntersBy (visited visit) (visited back) raw answer
leaves_back visit back lent door pass behind raw answer same_lent same_door same_pass is does =
    subst (λ v. EntersBy (visited visit) (visited v) raw answer) (sym is)
    (subst (λ p. EntersBy (knowing visit.door.name p) (knowing door.name behind) raw answer) same_pass
    (subst (λ (d : Doorway). EntersBy (knowing d.name pass) (knowing door.name behind) raw answer) same_door
    (subst (λ (d : Doorway). EntersBy (knowing d.name pass) (knowing d.name behind) raw answer) same_lent does)))

pub same_entry : (one other : Raw) → act.Enter one ≡ act.Enter other → one ≡ other
same_entry one other same = cc
