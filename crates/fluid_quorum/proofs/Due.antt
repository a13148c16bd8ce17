-- Proposals in the order of their numbers: those that are due come first.
use Rattle.std.proofs.Common.{◌≡◌, ℕ, zero, suc, ◌≤◌, arith, Bool, true, false, not, nat_le, nat_lt, List, [], ◌∷◌, length, take, drop, get_or, filter, refl, sym, ap}
use Rattle.std.specs.List.{AllWithin}
use Rattle.std.specs.List.Sorted.{IsPartitionedBy}
use Rattle.fluid_types.specs.declared.quorum.Proposal.{Proposal}
use Rattle.fluid_quorum.specs.After.{is_due}
use Rattle.fluid_quorum.specs.Lists.{AreRising}

none_pass : {X : Type 0} (p : X → Bool) (xs : List X) → AllWithin (λ x. p x ≡ false) xs 0 (length xs) → (filter p xs ≡ []) × (filter (λ x. not (p x)) xs ≡ xs)
none_pass p [] h = (refl, refl)
none_pass p (x ∷ xs) h =
    let first = h 0 x (omega arith) (omega arith) in
    let rest = none_pass p xs (λ k d low high. h (suc k) d (omega arith) (omega arith)) in
    (rw first rest.0, rw first (ap (λ l. x ∷ l) rest.1))

-- what passes up to a place, and nothing from there on
pub parted : {X : Type 0} (p : X → Bool) (xs : List X) (i : ℕ) → i ≤ length xs → AllWithin (λ x. p x ≡ true) xs 0 i → AllWithin (λ x. p x ≡ false) xs i (length xs)
    → (take i xs ≡ filter p xs) × (drop i xs ≡ filter (λ x. not (p x)) xs)
parted p xs zero le before behind = let none = none_pass p xs behind in (sym none.0, sym none.1)
parted p [] (suc i) le before behind = absurd (omega arith)
parted p (x ∷ xs) (suc i) le before behind =
    let first = before 0 x (omega arith) (omega arith) in
    let rest =
    parted p xs i (omega arith) (λ k d low high. before (suc k) d (omega arith) (omega arith)) (λ k d low high. behind (suc k) d (omega arith) (omega arith)) in
    (rw first (ap (λ l. x ∷ l) rest.0), rw first rest.1)

down : (a b m : ℕ) → a ≤ b → nat_le b m ≡ true → nat_le a m ≡ true
down a b m le h = grind arith

-- a proposal before a due one is due
pub partitioned : (minimum : ℕ) (ps : List Proposal) → AreRising ps → IsPartitionedBy (is_due minimum) ps
partitioned minimum ps rising i j d le lt passes = by_place (nat_lt i j) refl
  where
    by_place : (b : Bool) → nat_lt i j ≡ b → is_due minimum (get_or ps i d) ≡ true
    by_place true before = down _ (get_or ps j d).number minimum (omega (arith, rising i j d (grind arith) lt)) passes
    by_place false before = let same : i ≡ j = grind arith in rw same passes
