-- What a gate of a lane lets through: by the fault, which rule refused.
use Rattle.std.proofs.Common.{◌≡◌, ◌⊎◌, inl, inr, Bool, true, false, List, [], ◌∷◌, Some, None, Result, Ok, Err, refl}
use Rattle.fluid_lane.specs.declared.fault.LaneFault.{LaneFault}
use Rattle.fluid_lane.specs.declared.fault.LaneFault.TheVariants.{Worn}
use Rattle.fluid_lane.specs.Faults.{IsLogFailed}
use Rattle.fluid_lane.specs.Standing.{Standing, is_worn}
use Rattle.fluid_lane.specs.Refusals.{IsCause, IsCutFailed, IsGated, first_refusal}

pub same_fault : {A : Type 0} (a b : LaneFault) → ◌≡◌ {A = Result A LaneFault} (Err a) (Err b) → a ≡ b
same_fault a b same = cc

-- what one rule says of a fault
abbrev Says : (old new : Standing) (own fault : LaneFault) (may : LaneFault → Type 0) → Bool → Type 0
Says old new own fault may b = ((b ≡ true) × ((fault ≡ own) ⊎ (IsLogFailed fault × IsCutFailed old new))) ⊎ ((b ≡ false) × may fault)

said_by : (old new : Standing) (own fault : LaneFault) (may : LaneFault → Type 0) (b : Bool) → IsCause old new may (first_refusal ((b, own) ∷ [])) fault → Says old new own fault may b
said_by old new own fault may true cause = inl (refl, cause)
said_by old new own fault may false cause = inr (refl, cause)

module _ {A : Type 0} (old new : Standing) (own fault : LaneFault) (may : LaneFault → Type 0) where
  -- a fault that isn't that of a worn lane is the rule's, that of a cut, or one that may come where the rule doesn't refuse
  said : (b : Bool) → IsGated {A = A} old new ((b, own) ∷ []) may (Err fault) → (fault ≡ Worn → ⊥) → Says old new own fault may b
  said b gate fresh = by (is_worn old) refl
    where
      by : (worn : Bool) → is_worn old ≡ worn → Says old new own fault may b
      by true is = absurd (fresh (same_fault {A = A} fault Worn (gate.worn is).0))
      by false is = said_by old new own fault may b (gate.refuses is)

  -- the rule refuses: nothing else has this fault
  pub refused : (b : Bool) → IsGated {A = A} old new ((b, own) ∷ []) may (Err fault) → (fault ≡ Worn → ⊥) → (IsLogFailed fault → ⊥) → (may fault → ⊥) → (b ≡ true) × (fault ≡ own)
  refused b gate fresh no_log no_may = by (said b gate fresh)
    where
      by : Says old new own fault may b → (b ≡ true) × (fault ≡ own)
      by (inl (is, inl same)) = (is, same)
      by (inl (is, inr cut)) = absurd (no_log cut.0)
      by (inr passes) = absurd (no_may passes.1)

  -- it doesn't, and the fault is one that may come then
  pub passed : (b : Bool) → IsGated {A = A} old new ((b, own) ∷ []) may (Err fault) → (fault ≡ Worn → ⊥) → (IsLogFailed fault → ⊥) → (fault ≡ own → ⊥) → (b ≡ false) × may fault
  passed b gate fresh no_log other = by (said b gate fresh)
    where
      by : Says old new own fault may b → (b ≡ false) × may fault
      by (inl (is, inl same)) = absurd (other same)
      by (inl (is, inr cut)) = absurd (no_log cut.0)
      by (inr passes) = passes

  -- no such fault comes
  pub never : (b : Bool) → IsGated {A = A} old new ((b, own) ∷ []) may (Err fault) → (fault ≡ Worn → ⊥) → (IsLogFailed fault → ⊥) → (fault ≡ own → ⊥) → (may fault → ⊥) → ⊥
  never b gate fresh no_log other no_may = no_may (passed b gate fresh no_log other).1

-- an answer passes the one rule
pub answered : {A : Type 0} (old new : Standing) (own : LaneFault) (may : LaneFault → Type 0) (a : A) (b : Bool) → IsGated {A = A} old new ((b, own) ∷ []) may (Ok a) → b ≡ false
answered old new own may a true gate = let none : Some own ≡ None = gate.passes.1 in cc
answered old new own may a false gate = refl

-- a lane that says that it is worn is
pub worn : {A : Type 0} (old new : Standing) (rules : List (Bool × LaneFault)) (may : LaneFault → Type 0) → IsGated {A = A} old new rules may (Err Worn)
    → (IsCause old new may (first_refusal rules) Worn → ⊥) → (is_worn old ≡ true) × (new ≡ old)
worn {A = A} old new rules may gate no_cause = by (is_worn old) refl
  where
    by : (b : Bool) → is_worn old ≡ b → (is_worn old ≡ true) × (new ≡ old)
    by true is = (is, (gate.worn is).1)
    by false is = absurd (no_cause (gate.refuses is))

-- the same behind one rule
pub worn_one : {A : Type 0} (old new : Standing) (own : LaneFault) (may : LaneFault → Type 0) (b : Bool) → IsGated {A = A} old new ((b, own) ∷ []) may (Err Worn) → (Worn ≡ own → ⊥) → (may Worn → ⊥)
    → (is_worn old ≡ true) × (new ≡ old)
worn_one {A = A} old new own may b gate other no_may = worn {A = A} old new ((b, own) ∷ []) may gate (no_cause b)
  where
    no_cause : (c : Bool) → IsCause old new may (first_refusal ((c, own) ∷ [])) Worn → ⊥
    no_cause true (inl same) = other same
    no_cause true (inr cut) = cut.0
    no_cause false cause = no_may cause
