-- Which of its rules refused a call of a lane.
use Rattle.std.proofs.Common.{◌≡◌, ◌⊎◌, inl, inr, Bool, true, false, ◌||◌, List, [], ◌∷◌, Option, Some, None, Result, Err, refl, sym, ap, ◌∙◌}
use Rattle.std.specs.Prelude.{IsSome}
use Rattle.fluid_lane.specs.declared.fault.LaneFault.{LaneFault}
use Rattle.fluid_lane.specs.declared.fault.LaneFault.TheVariants as lane
use Rattle.fluid_lane.specs.Faults.{IsLogFailed, IsOutside}
use Rattle.fluid_lane.specs.Standing.{Standing, is_worn}
use Rattle.fluid_lane.specs.Refusals.{IsGated, IsCause, first_refusal}

abbrev pub Rules : Type 0
Rules = List (Bool × LaneFault)

pub err_same : {A : Type 0} (a b : LaneFault) → ◌≡◌ {A = Result A LaneFault} (Err a) (Err b) → a ≡ b
err_same a b same = cc

outside : (fault : LaneFault) → IsLogFailed fault → IsOutside fault
outside (lane.LogFailed note) failed = tt
outside (lane.Full entries) failed = absurd failed
outside (lane.BadRecord place) failed = absurd failed
outside (lane.NoCheckpoint asked stored) failed = absurd failed
outside lane.CheckpointsFull failed = absurd failed
outside lane.TooManyClients failed = absurd failed
outside (lane.DeltaFailed note) failed = absurd failed
outside lane.NoMemory failed = absurd failed
outside (lane.BadCheckpoint number bad) failed = absurd failed
outside (lane.TooLarge bytes) failed = absurd failed
outside lane.Worn failed = absurd failed

-- the lane was worn, the outside failed, or the first rule that refuses has this fault
abbrev pub IsWhy : Standing → Rules → LaneFault → Type 0
IsWhy old rules fault = ((is_worn old ≡ true) × (fault ≡ lane.Worn)) ⊎ (IsOutside fault ⊎ (first_refusal rules ≡ Some fault))

caused : (old new : Standing) (rules : Rules) (first : Option LaneFault) (fault : LaneFault) → first_refusal rules ≡ first → IsCause old new IsOutside first fault
    → IsOutside fault ⊎ (first_refusal rules ≡ Some fault)
caused old new rules None fault is cause = inl cause
caused old new rules (Some refusal) fault is (inl same) = inr (is ∙ ap Some (sym same))
caused old new rules (Some refusal) fault is (inr failed) = inl (outside fault failed.0)

pub why : {A : Type 0} (old new : Standing) (rules : Rules) (fault : LaneFault) → IsGated {A = A} old new rules IsOutside (Err fault) → IsWhy old rules fault
why {A = A} old new rules fault gate = by (is_worn old) refl
  where
    by : (b : Bool) → is_worn old ≡ b → IsWhy old rules fault
    by true is = inl (is, err_same {A = A} fault lane.Worn (gate.worn is).0)
    by false is = inr (caused old new rules (first_refusal rules) fault refl (gate.refuses is))

-- ---- one rule, and two

some_same : (a b : LaneFault) → ◌≡◌ {A = Option LaneFault} (Some a) (Some b) → a ≡ b
some_same a b same = cc

none_some : (a : LaneFault) → ◌≡◌ {A = Option LaneFault} None (Some a) → ⊥
none_some a same = cc

some_none : (a : LaneFault) → ◌≡◌ {A = Option LaneFault} (Some a) None → ⊥
some_none a same = cc

-- the rule refuses with its own fault
pub first_one : (b : Bool) (own fault : LaneFault) → first_refusal ((b, own) ∷ []) ≡ Some fault → (b ≡ true) × (own ≡ fault)
first_one true own fault is = (refl, some_same own fault is)
first_one false own fault is = absurd (none_some fault is)

pub none_of_one : (b : Bool) (own : LaneFault) → first_refusal ((b, own) ∷ []) ≡ None → b ≡ false
none_of_one true own is = absurd (some_none own is)
none_of_one false own is = refl

pub first_two : (a b : Bool) (one other fault : LaneFault) → first_refusal ((a, one) ∷ (b, other) ∷ []) ≡ Some fault
    → ((a ≡ true) × (one ≡ fault)) ⊎ ((a ≡ false) × ((b ≡ true) × (other ≡ fault)))
first_two true b one other fault is = inl (refl, some_same one fault is)
first_two false b one other fault is = inr (refl, first_one b other fault is)

pub none_of_two : (a b : Bool) (one other : LaneFault) → first_refusal ((a, one) ∷ (b, other) ∷ []) ≡ None → (a ≡ false) × (b ≡ false)
none_of_two true b one other is = absurd (some_none one is)
none_of_two false b one other is = (refl, none_of_one b other is)

-- a rule that refuses is the first that does, or there is one before it
pub refuses_one : (b : Bool) (own : LaneFault) → b ≡ true → IsSome (first_refusal ((b, own) ∷ []))
refuses_one true own is = refl
refuses_one false own is = is

pub refuses_two : (a b : Bool) (one other : LaneFault) → (a || b) ≡ true → IsSome (first_refusal ((a, one) ∷ (b, other) ∷ []))
refuses_two true b one other is = refl
refuses_two false b one other is = refuses_one b other is
