-- Whether keys strictly rise is told by each two neighbours.
use Rattle.std.proofs.Common.{◌≡◌, ℕ, zero, suc, ◌+◌, ◌<◌, Bool, true, false, T, List, [], ◌∷◌, length, get_or, map, refl, sym, ap, subst, ◌∙◌, arith}
use Rattle.std.proofs.lemmas.List.{length-map}
use Rattle.std.specs.List.{IsAllAdjacentAnswer}
use Rattle.std.specs.Ordering.{is_lt}
use Rattle.std.specs.Cmp.{IsTotalOrder}
use Rattle.std.specs.declared.cmp.Ordering.{Ordering}
use Rattle.std.specs.declared.cmp.Ordering.TheVariants.{Less, Equal, Greater}
use Rattle.std.specs.FinMap.Entries.{is_sorted}
use Rattle.fluid_table.proofs.Ordered.{rises, sorted_next}

read_mapped : {A B : Type 0} (f : A → B) (xs : List A) (i : ℕ) (a : A) (b : B) → i < length xs → get_or (map f xs) i b ≡ f (get_or xs i a)
read_mapped f [] i a b lt = absurd (omega arith)
read_mapped f (x ∷ xs) zero a b lt = refl
read_mapped f (x ∷ xs) (suc i) a b lt = read_mapped f xs i a b (omega arith)

lt_of : (r : Ordering) → true ≡ is_lt r → r ≡ Less
lt_of Less is = refl
lt_of Equal is = cc
lt_of Greater is = cc

is_true : (b : Bool) → T b → true ≡ b
is_true true p = refl
is_true false p = absurd p

not_less : (r : Ordering) → r ≡ Less → false ≡ is_lt r → ⊥
not_less r is fails = subst T (sym (fails ∙ ap is_lt is)) tt

module _ {E K X : Type 0} (key : E → K) (value : E → X) {R : K → K → Ordering} (o : IsTotalOrder R) where
  abbrev pair : E → K × X
  pair e = (key e, value e)

  neighbours : (es : List E) → ((k : ℕ) (d : E) → k + 1 < length es → true ≡ is_lt (R (key (get_or es k d)) (key (get_or es (k + 1) d))))
      → (k : ℕ) (d : K × X) → suc k < length es → R (get_or (map pair es) k d).0 (get_or (map pair es) (suc k) d).0 ≡ Less
  neighbours [] rising k d lt = absurd (omega arith)
  neighbours (e ∷ es) rising k d lt =
      let left = read_mapped pair (e ∷ es) k e d (omega (arith, lt)) in
      let right = read_mapped pair (e ∷ es) (suc k) e d lt in
      let same : k + 1 ≡ suc k = omega arith in
      let less = subst (λ j. true ≡ is_lt (R (key (get_or (e ∷ es) k e)) (key (get_or (e ∷ es) j e)))) same (rising k e (omega (arith, lt))) in
      subst (λ p. R p.0 (get_or (map pair (e ∷ es)) (suc k) d).0 ≡ Less) (sym left) (subst (λ p. R (key (get_or (e ∷ es) k e)) p.0 ≡ Less) (sym right) (lt_of _ less))

  read_key : (e : E) (es : List E) (i : ℕ) → i < length (e ∷ es) → (get_or (map pair (e ∷ es)) i (pair e)).0 ≡ key (get_or (e ∷ es) i e)
  read_key e es i lt = ap (λ p. p.0) (read_mapped pair (e ∷ es) i e (pair e) lt)

  unsorted : (es : List E) (k : ℕ) → k + 1 < length es → ((d : E) → false ≡ is_lt (R (key (get_or es k d)) (key (get_or es (k + 1) d)))) → (b : Bool) → is_sorted R (map pair es) ≡ b → false ≡ b
  unsorted [] k lt f b is = absurd (omega arith)
  unsorted (e ∷ es) k lt f false is = refl
  unsorted (e ∷ es) k lt f true is =
      let less = rises o (map pair (e ∷ es)) k (k + 1) (pair e) (subst T (sym is) tt) (omega arith) (omega (arith, lt, length-map (e ∷ es) pair)) in
      let left = read_key e es k (omega (arith, lt)) in
      let right = read_key e es (k + 1) lt in
      absurd (not_less _ (subst (λ x. R x (key (get_or (e ∷ es) (k + 1) e)) ≡ Less) left (subst (λ x. R (get_or (map pair (e ∷ es)) k (pair e)).0 x ≡ Less) right less)) (f e))

  pub told : (es : List E) (r : Bool) → IsAllAdjacentAnswer (λ x y b. b ≡ is_lt (R (key x) (key y))) es r → r ≡ is_sorted R (map pair es)
  told es true rising = is_true _ (sorted_next o (map pair es) (λ k d lt. neighbours es rising k d (omega (arith, lt, length-map es pair))))
  told es false fails = unsorted es fails.0 fails.1 fails.2 (is_sorted R (map pair es)) refl
