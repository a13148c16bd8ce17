-- A submission that is entered by a lane, or isn't.
use Rattle.std.proofs.Common.{◌≡◌, ◌⊎◌, inl, inr, ℕ, arith, Bool, true, false, [], ◌∷◌, Option, Some, None, IfSome, Result, Ok, Err, refl, sym, subst}
use Rattle.fluid_types.specs.declared.entries.Raw.{Raw}
use Rattle.fluid_types.specs.declared.verdicts.Verdict.{Verdict}
use Rattle.fluid_store.specs.Storing.{Storing}
use Rattle.fluid_lane.specs.declared.fault.LaneFault.{LaneFault}
use Rattle.fluid_lane.specs.declared.fault.LaneFault.TheVariants.{LogFailed, Full, BadRecord, NoCheckpoint, CheckpointsFull, TooManyClients, DeltaFailed, NoMemory, BadCheckpoint, TooLarge, Worn}
use Rattle.fluid_lane.specs.declared.steps.Step.TheVariants.{Entered}
use Rattle.fluid_lane.specs.Faults.{IsLogFailed, IsOutside}
use Rattle.fluid_lane.specs.Steps.{ledger, stored, fault_steps}
use Rattle.fluid_lane.specs.Standing.{Standing, Goes, is_worn}
use Rattle.fluid_lane.specs.Refusals.{IsGated, IsCause, first_refusal, is_full_for}
use Rattle.fluid_lane.specs.Calls.{Enters}
use Rattle.fluid_door_link.specs.declared.fault.LentFault.{LentFault}
use Rattle.fluid_door_link.specs.declared.fault.LentFault.TheVariants.{Lane}
use Rattle.fluid_door_link.specs.Failing.{HasCause, IsHonest, IsNoRefusal, kept_of_lane}
use Rattle.fluid_door_link.specs.Coursing.{Along, IsAlong}
use Rattle.fluid_door_link.specs.Linking.{EntersBy, answer_of_lane}
use Rattle.fluid_door_link.specs.Telling.{told_by}
use Rattle.fluid_door_link.proofs.Told.{same_told, added, full_both}
use Rattle.fluid_door_link.proofs.Walked.{HasAsides, known, went_lane}

same_fault : (a b : LaneFault) → ◌≡◌ {A = Result Verdict LaneFault} (Err a) (Err b) → a ≡ b
same_fault a b same = cc

-- a fault's steps are aside
none_stored : (fault : LaneFault) → stored (fault_steps fault) ≡ 0
none_stored (LogFailed note) = refl
none_stored (DeltaFailed note) = refl
none_stored Worn = refl
none_stored NoMemory = refl
none_stored (Full n) = refl
none_stored TooManyClients = refl
none_stored (BadRecord n) = refl
none_stored (NoCheckpoint k n) = refl
none_stored CheckpointsFull = refl
none_stored (BadCheckpoint n f) = refl
none_stored (TooLarge n) = refl

none_entered : (fault : LaneFault) → ledger (fault_steps fault) ≡ []
none_entered (LogFailed note) = refl
none_entered (DeltaFailed note) = refl
none_entered Worn = refl
none_entered NoMemory = refl
none_entered (Full n) = refl
none_entered TooManyClients = refl
none_entered (BadRecord n) = refl
none_entered (NoCheckpoint k n) = refl
none_entered CheckpointsFull = refl
none_entered (BadCheckpoint n f) = refl
none_entered (TooLarge n) = refl

-- why an entry is refused: the lane is worn, and stays; the document is full; or the keeper failed or memory was wanting
abbrev IsWhy : (old new : Standing) → Raw → LaneFault → Type 0
IsWhy old new raw fault = ((fault ≡ Worn) × ((is_worn old ≡ true) × (new ≡ old))) ⊎ ((((is_full_for old raw).0 ≡ true) × (fault ≡ (is_full_for old raw).1)) ⊎ IsOutside fault)

outside_log : (fault : LaneFault) → IsLogFailed fault → IsOutside fault
outside_log (LogFailed note) is = tt
outside_log (DeltaFailed note) is = absurd is
outside_log Worn is = absurd is
outside_log NoMemory is = absurd is
outside_log (Full n) is = absurd is
outside_log TooManyClients is = absurd is
outside_log (BadRecord n) is = absurd is
outside_log (NoCheckpoint k n) is = absurd is
outside_log CheckpointsFull is = absurd is
outside_log (BadCheckpoint n f) is = absurd is
outside_log (TooLarge n) is = absurd is

module _ (old new : Standing) (raw : Raw) where
  because : (b : Bool) (own fault : LaneFault) → IsCause old new IsOutside (first_refusal ((b, own) ∷ [])) fault → ((b ≡ true) × (fault ≡ own)) ⊎ IsOutside fault
  because true own fault (inl same) = inl (refl, same)
  because true own fault (inr cut) = inr (outside_log fault cut.0)
  because false own fault is = inr is

  why : (fault : LaneFault) → IsGated {A = Verdict} old new (is_full_for old raw ∷ []) IsOutside (Err fault) → IsWhy old new raw fault
  why fault gate = by (is_worn old) refl
    where
      by : (b : Bool) → is_worn old ≡ b → IsWhy old new raw fault
      by true is = inl (same_fault fault Worn (gate.worn is).0, (is, (gate.worn is).1))
      by false is = inr (because (is_full_for old raw).0 (is_full_for old raw).1 fault (gate.refuses is))

  passes : (b : Bool) (own : LaneFault) → first_refusal ((b, own) ∷ []) ≡ None → b ≡ false
  passes true own is = absurd (cc)
  passes false own is = refl

  room : (v : Verdict) → IsGated {A = Verdict} old new (is_full_for old raw ∷ []) IsOutside (Ok v) → (is_full_for old raw).0 ≡ false
  room v gate = passes (is_full_for old raw).0 (is_full_for old raw).1 gate.passes.1

-- ---- what is kept of it

none_kept : (fault : LentFault) → ◌≡◌ {A = Option LentFault} (Some fault) None → ⊥
none_kept fault same = cc

honest_kept : (fault : LaneFault) → IfSome (kept_of_lane fault) IsHonest
honest_kept (LogFailed note) = tt
honest_kept (DeltaFailed note) = tt
honest_kept Worn = tt
honest_kept NoMemory = tt
honest_kept (Full n) = tt
honest_kept TooManyClients = tt
honest_kept (BadRecord n) = tt
honest_kept (NoCheckpoint k n) = tt
honest_kept CheckpointsFull = tt
honest_kept (BadCheckpoint n f) = tt
honest_kept (TooLarge n) = tt

-- and of side steps
kept_asides : (fault : LaneFault) → HasAsides (kept_of_lane fault) (fault_steps fault)
kept_asides (LogFailed note) = omega arith
kept_asides (DeltaFailed note) = omega arith
kept_asides Worn = omega arith
kept_asides NoMemory = refl
kept_asides (Full n) = refl
kept_asides TooManyClients = omega arith
kept_asides (BadRecord n) = omega arith
kept_asides (NoCheckpoint k n) = omega arith
kept_asides CheckpointsFull = omega arith
kept_asides (BadCheckpoint n f) = omega arith
kept_asides (TooLarge n) = omega arith

-- behind an answer that isn't kept no cut is owed
level_by : (old new : Standing) (raw : Raw) (fault : LaneFault) → Enters {A = Verdict} raw old new (Err fault) → kept_of_lane fault ≡ None → new.owed ≡ false
level_by old new raw (LogFailed note) enters none = absurd (none_kept (Lane (LogFailed note)) none)
level_by old new raw (DeltaFailed note) enters none = enters.owes
level_by old new raw Worn enters none = absurd (none_kept (Lane Worn) none)
level_by old new raw NoMemory enters none = enters.owes
level_by old new raw (Full n) enters none = enters.owes
level_by old new raw TooManyClients enters none = enters.owes
level_by old new raw (BadRecord n) enters none = enters.owes
level_by old new raw (NoCheckpoint k n) enters none = enters.owes
level_by old new raw CheckpointsFull enters none = enters.owes
level_by old new raw (BadCheckpoint n f) enters none = enters.owes
level_by old new raw (TooLarge n) enters none = enters.owes

module _ (old new : Standing) (raw : Raw) where
  worn_still : IsWhy old new raw Worn → is_worn new ≡ true
  worn_still (inl here) = subst (λ s. is_worn s ≡ true) (sym here.1.1) here.1.0
  worn_still (inr (inl full)) = absurd (other (is_full_for old raw).1 refl full.1)
    where
      other : (own : LaneFault) → (is_full_for old raw).1 ≡ own → Worn ≡ (is_full_for old raw).1 → ⊥
      other own is same = cc
  worn_still (inr (inr out)) = absurd out

  -- no other fault comes
  outside_only : (fault : LaneFault) → (fault ≡ Worn → ⊥) → (fault ≡ (is_full_for old raw).1 → ⊥) → IsWhy old new raw fault → IsOutside fault
  outside_only fault no_worn no_full (inl here) = absurd (no_worn here.0)
  outside_only fault no_worn no_full (inr (inl full)) = absurd (no_full full.1)
  outside_only fault no_worn no_full (inr (inr out)) = out

  fails_by : (fault : LaneFault) → IsWhy old new raw fault → Enters {A = Verdict} raw old new (Err fault) → (store : Storing) → IfSome (kept_of_lane fault) (HasCause old new store store)
  fails_by (LogFailed note) is enters store = enters.cause
  fails_by (DeltaFailed note) is enters store = enters.cause
  fails_by Worn is enters store = worn_still is
  fails_by NoMemory is enters store = tt
  fails_by (Full n) is enters store = tt
  fails_by TooManyClients is enters store = outside_only TooManyClients (λ same. cc) (λ same. cc) is
  fails_by (BadRecord n) is enters store = outside_only (BadRecord n) (λ same. cc) (λ same. cc) is
  fails_by (NoCheckpoint k n) is enters store = outside_only (NoCheckpoint k n) (λ same. cc) (λ same. cc) is
  fails_by CheckpointsFull is enters store = outside_only CheckpointsFull (λ same. cc) (λ same. cc) is
  fails_by (BadCheckpoint n f) is enters store = outside_only (BadCheckpoint n f) (λ same. cc) (λ same. cc) is
  fails_by (TooLarge n) is enters store = outside_only (TooLarge n) (λ same. cc) (λ same. cc) is

  full_only : (n : ℕ) → IsWhy old new raw (Full n) → (is_full_for old raw).0 ≡ true
  full_only n (inl here) = absurd (other here.0)
    where
      other : Full n ≡ Worn → ⊥
      other same = cc
  full_only n (inr (inl full)) = full.0
  full_only n (inr (inr out)) = absurd out

module _ (good : Bool) (began : Standing) (before : Storing) (at : Along) (along : IsAlong good began before at) (still : at.stop ≡ None) (raw : Raw) (new : Standing) where
  pub entered_along : (v : Verdict) → Goes at.lane new (Entered raw v ∷ []) → Enters {A = Verdict} raw at.lane new (Ok v) → IsAlong good began before (record { lane = new; store = at.store; stop = None })
  entered_along v goes enters = went_lane good began before at along still new (Entered raw v ∷ []) None goes refl refl (λ none is. enters.owes) (λ is. tt) tt

  pub entered_told : (v : Verdict) → Goes at.lane new (Entered raw v ∷ []) → IsGated {A = Verdict} at.lane new (is_full_for at.lane raw ∷ []) IsOutside (Ok v)
      → EntersBy raw (told_by good at.lane at.store) (told_by good new at.store) (Ok (Some v))
  entered_told v goes gate = added at.lane new raw v goes (room at.lane new raw v gate) good (known good began before at along) at.store

  module _ (fault : LaneFault) (goes : Goes at.lane new (fault_steps fault)) where
    pub unentered_along : IsGated {A = Verdict} at.lane new (is_full_for at.lane raw ∷ []) IsOutside (Err fault) → Enters {A = Verdict} raw at.lane new (Err fault)
        → IsAlong good began before (record { lane = new; store = at.store; stop = kept_of_lane fault })
    unentered_along gate enters =
        went_lane good began before at along still new (fault_steps fault) (kept_of_lane fault) goes (none_stored fault) (kept_asides fault) (λ none is. level_by at.lane new raw fault enters none)
        (λ is. honest_kept fault) (fails_by at.lane new raw fault (why at.lane new raw fault gate) enters at.store)

    same : told_by good new at.store ≡ told_by good at.lane at.store
    same = same_told at.lane new (fault_steps fault) goes good (known good began before at along) (none_entered fault) at.store at.store refl

  pub unentered_told : (fault : LaneFault) → Goes at.lane new (fault_steps fault) → IsGated {A = Verdict} at.lane new (is_full_for at.lane raw ∷ []) IsOutside (Err fault)
      → EntersBy raw (told_by good at.lane at.store) (told_by good new at.store) (answer_of_lane fault)
  unentered_told (Full n) goes gate =
      full_both at.lane new raw goes (full_only at.lane new raw n (why at.lane new raw (Full n) gate)) good (known good began before at along) at.store
  unentered_told NoMemory goes gate = same NoMemory goes
  unentered_told (LogFailed note) goes gate = same (LogFailed note) goes
  unentered_told (DeltaFailed note) goes gate = same (DeltaFailed note) goes
  unentered_told Worn goes gate = same Worn goes
  unentered_told TooManyClients goes gate = same TooManyClients goes
  unentered_told (BadRecord n) goes gate = same (BadRecord n) goes
  unentered_told (NoCheckpoint k n) goes gate = same (NoCheckpoint k n) goes
  unentered_told CheckpointsFull goes gate = same CheckpointsFull goes
  unentered_told (BadCheckpoint n f) goes gate = same (BadCheckpoint n f) goes
  unentered_told (TooLarge n) goes gate = same (TooLarge n) goes

-- an entry is no tree
pub no_tree : (fault : LaneFault) → IsNoRefusal (kept_of_lane fault)
no_tree (LogFailed note) = refl
no_tree (DeltaFailed note) = refl
no_tree Worn = refl
no_tree NoMemory = refl
no_tree (Full n) = refl
no_tree TooManyClients = refl
no_tree (BadRecord n) = refl
no_tree (NoCheckpoint k n) = refl
no_tree CheckpointsFull = refl
no_tree (BadCheckpoint n f) = refl
no_tree (TooLarge n) = refl
