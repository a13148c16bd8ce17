-- What a sweep makes of a lane where somebody is silent.
use Rattle.std.proofs.Common.{◌≡◌, ℕ, ◌<◌, true, false, List, slice_get, Option, Some, Err, refl, sym, subst, ◌∙◌, arith}
use Rattle.std.specs.FinMap.{keys, len}
use Rattle.fluid_types.specs.declared.entries.Raw.{Raw}
use Rattle.fluid_types.specs.declared.entries.Raw.TheVariants.{Leave}
use Rattle.fluid_types.specs.declared.messages.Message.{Message}
use Rattle.fluid_clients.specs.Table.{Rows}
use Rattle.fluid_log.specs.Calls.{KeepsSame}
use Rattle.fluid_lane.specs.declared.fault.LaneFault.{LaneFault}
use Rattle.fluid_lane.specs.declared.fault.LaneFault.TheVariants.{LogFailed, NoMemory, Worn}
use Rattle.fluid_lane.specs.Faults.{IsCausedBy, IsLogFailed, IsOutside}
use Rattle.fluid_lane.specs.Standing.{Standing, is_worn}
use Rattle.fluid_lane.specs.Refusals.{IsCutFailed}
use Rattle.fluid_lane.specs.Calls.{cut_back, Enters}
use Rattle.fluid_lane.specs.Sweeps.{first_silent, SweepsBy}
use Rattle.fluid_lane.proofs.Ids.{length-keys}
use Rattle.fluid_lane.proofs.Quiet.{at_place}
use Rattle.std.proofs.lemmas.Bool.{false≢true}
use Rattle.fluid_lane.proofs.Gated.{gated_by}
use Rattle.fluid_lane.proofs.Composed.{enters_worn, enters_cut, enters_early}

-- the silent client stands in this place
abbrev pub StandsIn : (moment silence : ℕ) → Standing → ℕ → Type 0
StandsIn moment silence s place =
    (place < len s.entries.state.sequencer.rows) × (slice_get (keys s.entries.state.sequencer.rows) place ≡ first_silent moment silence s.entries.state.sequencer.rows)

record IsFound (moment silence : ℕ) (rows : Rows) : Type 0 where
  id : List ℕ
  is : first_silent moment silence rows ≡ Some id

found : (moment silence : ℕ) (s : Standing) (place : ℕ) → StandsIn moment silence s place → IsFound moment silence s.entries.state.sequencer.rows
found moment silence s place stands =
    let rows = s.entries.state.sequencer.rows in
    let here = at_place (keys rows) place (omega (arith, stands.0, length-keys rows)) in
    record { id = here.0; is = sym stands.1 ∙ here.1 }

log_outside : (fault : LaneFault) → IsLogFailed fault → IsOutside fault
log_outside (LogFailed note) is = tt
log_outside other is = absurd is

pub sweeps_worn : (moment silence : ℕ) (old new : Standing) (place : ℕ) → StandsIn moment silence old place → is_worn old ≡ true → new ≡ old → SweepsBy moment (first_silent moment silence old.entries.state.sequencer.rows) old new (Err Worn)
sweeps_worn moment silence old new place stands worn same =
    let one = found moment silence old place stands in
    subst (λ o. SweepsBy moment o old new (Err Worn)) (sym one.is)
    (record { gate = gated_by old new IsOutside Worn (λ _. (refl, same)) (λ is. absurd (false≢true (sym is ∙ worn))); enters = enters_worn (Leave one.id moment) old new same; gives = tt })

pub sweeps_cut : (moment silence : ℕ) (old new : Standing) (place : ℕ) (fault : LaneFault) → StandsIn moment silence old place → is_worn old ≡ false → IsLogFailed fault → IsCutFailed old new → new.entries ≡ old.entries → new.keeping.reads ≡ old.keeping.reads
    → IsCausedBy old.keeping.faults new.keeping.faults fault → SweepsBy moment (first_silent moment silence old.entries.state.sequencer.rows) old new (Err fault)
sweeps_cut moment silence old new place fault stands worn log cut entries reads cause =
    let one = found moment silence old place stands in
    subst (λ o. SweepsBy moment o old new (Err fault)) (sym one.is)
    (record { gate = gated_by old new IsOutside fault (λ is. absurd (false≢true (sym worn ∙ is))) (λ _. log_outside fault log); enters = enters_cut (Leave one.id moment) old new fault log cut entries reads cause; gives = tt })

-- no memory for the id
pub sweeps_early : (moment silence : ℕ) (old new : Standing) (place : ℕ) → StandsIn moment silence old place → is_worn old ≡ false → KeepsSame (cut_back old) new.keeping → new.entries ≡ old.entries → new.owed ≡ false → new.keeping.reads ≡ old.keeping.reads
    → SweepsBy moment (first_silent moment silence old.entries.state.sequencer.rows) old new (Err NoMemory)
sweeps_early moment silence old new place stands worn kept entries level reads =
    let one = found moment silence old place stands in
    subst (λ o. SweepsBy moment o old new (Err NoMemory)) (sym one.is)
    (record { gate = gated_by old new IsOutside NoMemory (λ is. absurd (false≢true (sym worn ∙ is))) (λ _. tt); enters = enters_early (Leave one.id moment) old new kept entries level reads; gives = tt })

-- the leave was to be entered
pub sweeps_on : (moment silence : ℕ) (old new : Standing) (id : List ℕ) (fault : LaneFault) → first_silent moment silence old.entries.state.sequencer.rows ≡ Some id → is_worn old ≡ false → IsOutside fault
    → Enters {A = Option (Raw × Message)} (Leave id moment) old new (Err fault) → SweepsBy moment (first_silent moment silence old.entries.state.sequencer.rows) old new (Err fault)
sweeps_on moment silence old new id fault first worn outside enters =
    subst (λ o. SweepsBy moment o old new (Err fault)) (sym first)
    (record { gate = gated_by old new IsOutside fault (λ is. absurd (false≢true (sym worn ∙ is))) (λ _. outside); enters = enters; gives = tt })
