-- A restart from a checkpoint whose clients are others is refused.
use Rattle.std.proofs.Common.{◌≡◌, ◌⊎◌, ℕ, Option, Some, Ok, List, [], refl, sym, ap, ⊎_elim, codes, inl, inr, ◌∙◌}
use Rattle.std.specs.Prelude.{◌≢◌}
use Rattle.std.specs.FinMap.{keys}
use Rattle.fluid_io.specs.Causes.{Tells}
use Rattle.fluid_log.specs.Keeping.{Content}
use Rattle.fluid_checkpoint.specs.declared.fault.CheckpointFault.TheVariants.{BadField}
use Rattle.fluid_deltas.proofs.Telling.{tells_each, tells_from}
use Rattle.fluid_document.specs.declared.fault.LoadFault.{LoadFault}
use Rattle.fluid_document.specs.declared.fault.LoadFault.TheVariants as loading
use Rattle.fluid_document.specs.Entries.{Entries}
use Rattle.fluid_document.specs.Loading.{loaded}
use Rattle.fluid_lane.specs.declared.fault.LaneFault.{LaneFault}
use Rattle.fluid_lane.specs.declared.fault.LaneFault.TheVariants.{BadCheckpoint, NoMemory}
use Rattle.fluid_lane.specs.Faults.{of_loading}
use Rattle.fluid_lane.specs.Steps.{fault_steps}
use Rattle.fluid_lane.specs.Restarts.{RefusesRestart}

-- the fault of a bad member, or of memory
abbrev pub IsBadOf : (number : ℕ) (name : List ℕ) → LaneFault → Type 0
IsBadOf number name answer = (answer ≡ NoMemory) ⊎ (answer ≡ BadCheckpoint number (BadField name))

pub bad_of : (number : ℕ) (name : List ℕ) (fault : LoadFault) (answer : LaneFault) → (fault ≡ loading.NoMemory) ⊎ (fault ≡ loading.BadCheckpoint number (BadField name)) → answer ≡ of_loading fault → IsBadOf number name answer
bad_of number name fault answer (inl memory) is = inl (is ∙ ap of_loading memory)
bad_of number name fault answer (inr bad) is = inr (is ∙ ap of_loading bad)

pub bad_steps : (number : ℕ) (name : List ℕ) (answer : LaneFault) → IsBadOf number name answer → [] ≡ fault_steps answer
bad_steps number name answer is = ⊎_elim (λ memory. ap fault_steps (sym memory)) (λ bad. ap fault_steps (sym bad)) is

pub others_refused : (told : Option Content) (number : ℕ) (old e : Entries) (answer : LaneFault) → Tells told (λ content. loaded content (Some number) ≡ Ok e) → keys e.state.sequencer.rows ≢ keys old.state.sequencer.rows
    → IsBadOf number (codes "clients") answer → Tells told (λ content. RefusesRestart number old content answer)
others_refused told number old e answer loads others (inl memory) = rw memory (tells_each told _ (λ content. tt))
others_refused told number old e answer loads others (inr bad) = rw bad (tells_from told _ _ (λ content is. inr (record { entries = e; is = is; others = others; answered = refl })) loads)
