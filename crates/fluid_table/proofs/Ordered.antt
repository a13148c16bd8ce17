-- What is found in entries that are in order, and what an edit at a place makes of them.
use Rattle.std.proofs.Common.{◌≡◌, ℕ, zero, suc, ◌<◌, ◌≤◌, Bool, true, false, cond, not, ◌&&◌, T, List, [], ◌∷◌, length, get_or, set, Some, None, is_some, refl, sym, ap, subst, ◌∙◌, arith}
use Rattle.std.specs.List.{insert, remove}
use Rattle.std.specs.Ordering.{is_lt, ordering_reverse, eq_by_cmp}
use Rattle.std.specs.Cmp.{IsTotalOrder, tied_itself}
use Rattle.std.specs.declared.cmp.Ordering.{Ordering}
use Rattle.std.specs.declared.cmp.Ordering.TheVariants.{Less, Equal, Greater}
use Rattle.std.specs.FinMap.Entries.{put, find, where_key, below_all, is_sorted}

pub both : (a b : Bool) → T a → T b → T (a && b)
both true b p q = q
both false b p q = p

pub first : (a b : Bool) → T (a && b) → T a
first true b p = tt
first false b p = p

pub second : (a b : Bool) → T (a && b) → T b
second true b p = p
second false b p = absurd p

pub less : (o : Ordering) → T (is_lt o) → o ≡ Less
less Less p = refl
less Equal p = absurd p
less Greater p = absurd p

is_less : (r : Ordering) → r ≡ Less → T (is_lt r)
is_less r is = subst (λ s. T (is_lt s)) (sym is) tt

-- the comparison the other way round
pub turned : {K : Type 0} {R : K → K → Ordering} → IsTotalOrder R → (x k : K) (r : Ordering) → R x k ≡ r → R k x ≡ ordering_reverse r
turned o x k r p = o.antisymm k x ∙ ap ordering_reverse p

-- a key ties with itself
tied : {K : Type 0} {R : K → K → Ordering} → IsTotalOrder R → (k y : K) → y ≡ k → R k y ≡ Equal
tied {R = R} o k y is = subst (λ z. R k z ≡ Equal) (sym is) (tied_itself o k)

module _ {K X : Type 0} {R : K → K → Ordering} (o : IsTotalOrder R) where
  -- a key below all entries is below the one at a place
  below_at : (x k : K) (es : List (K × X)) (at : ℕ) (d : K × X) → T (below_all R x es) → at < length es → (get_or es at d).0 ≡ k → R x k ≡ Less
  below_at x k [] at d h lt is = absurd (omega arith)
  below_at x k (e ∷ es) zero d h lt is = subst (λ y. R x y ≡ Less) is (less (R x e.0) (first _ _ h))
  below_at x k (e ∷ es) (suc at) d h lt is = below_at x k es at d (second _ _ h) (omega arith) is

  -- keys rise from place to place
  pub rises : (es : List (K × X)) (i j : ℕ) (d : K × X) → T (is_sorted R es) → i < j → j < length es → R (get_or es i d).0 (get_or es j d).0 ≡ Less
  rises [] i j d h below lt = absurd (omega arith)
  rises (e ∷ es) i zero d h below lt = absurd (omega arith)
  rises (e ∷ es) zero (suc j) d h below lt = below_at e.0 _ es j d (first _ _ h) (omega arith) refl
  rises (e ∷ es) (suc i) (suc j) d h below lt = rises es i j d (second _ _ h) (omega arith) (omega arith)

  -- a key below all entries isn't among them, so all stay without it
  where_above : (k : K) (es : List (K × X)) → T (below_all R k es) → where_key R (λ x. not (eq_by_cmp R k x)) es ≡ es
  where_above k [] h = refl
  where_above k (e ∷ es) h = rw (less (R k e.0) (first _ _ h)) (ap (λ rest. e ∷ rest) (where_above k es (second _ _ h)))

  -- a key below all entries isn't found
  pub find_above : (k : K) (es : List (K × X)) → T (below_all R k es) → find R k es ≡ None
  find_above k [] h = refl
  find_above k (e ∷ es) h = rw (less (R k e.0) (first _ _ h)) (find_above k es (second _ _ h))

  module _ (k : K) where
    -- the first entry is below a key that stands behind it
    behind : (e : K × X) (es : List (K × X)) (at : ℕ) (d : K × X) → T (is_sorted R (e ∷ es)) → suc at < length (e ∷ es) → (get_or es at d).0 ≡ k → R k e.0 ≡ Greater
    behind e es at d h lt is = turned o e.0 k Less (below_at e.0 k es at d (first _ _ h) (omega arith) is)

    pub find_at : (es : List (K × X)) (at : ℕ) (d : K × X) → T (is_sorted R es) → at < length es → (get_or es at d).0 ≡ k → find R k es ≡ Some (get_or es at d).1
    find_at [] at d h lt is = absurd (omega arith)
    find_at (e ∷ es) zero d h lt is = rw (tied o k e.0 is)
    find_at (e ∷ es) (suc at) d h lt is = rw (behind e es at d h lt is) (find_at es at d (second _ _ h) (omega arith) is)

    pub put_at : (v : X) (es : List (K × X)) (at : ℕ) (d : K × X) → T (is_sorted R es) → at < length es → (get_or es at d).0 ≡ k → put R k v es ≡ set es at (k, v)
    put_at v [] at d h lt is = absurd (omega arith)
    put_at v (e ∷ es) zero d h lt is = rw (tied o k e.0 is) (ap (λ y. (y, v) ∷ es) is)
    put_at v (e ∷ es) (suc at) d h lt is = rw (behind e es at d h lt is) (ap (λ rest. e ∷ rest) (put_at v es at d (second _ _ h) (omega arith) is))

    pub where_at : (es : List (K × X)) (at : ℕ) (d : K × X) → T (is_sorted R es) → at < length es → (get_or es at d).0 ≡ k → where_key R (λ x. not (eq_by_cmp R k x)) es ≡ remove es at
    where_at [] at d h lt is = absurd (omega arith)
    where_at (e ∷ es) zero d h lt is = rw (tied o k e.0 is) (where_above k es (subst (λ y. T (below_all R y es)) is (first _ _ h)))
    where_at (e ∷ es) (suc at) d h lt is = rw (behind e es at d h lt is) (ap (λ rest. e ∷ rest) (where_at es at d (second _ _ h) (omega arith) is))

    -- entries below the key up to a place, and above it from there on
    abbrev pub Parts : List (K × X) → ℕ → Type 0
    Parts es at = ((j : ℕ) (d : K × X) → j < at → R (get_or es j d).0 k ≡ Less) × ((j : ℕ) (d : K × X) → at ≤ j → j < length es → R (get_or es j d).0 k ≡ Greater)

    parts_behind : (e : K × X) (es : List (K × X)) (at : ℕ) → Parts (e ∷ es) (suc at) → Parts es at
    parts_behind e es at p = (λ j d lt. p.0 (suc j) d (omega arith), λ j d le lt. p.1 (suc j) d (omega arith) (omega arith))

    parts_above : (e : K × X) (es : List (K × X)) → Parts (e ∷ es) 0 → Parts es 0
    parts_above e es p = (λ j d lt. absurd (omega arith), λ j d le lt. p.1 (suc j) d (omega arith) (omega arith))

    pub find_gap : (es : List (K × X)) (at : ℕ) → Parts es at → find R k es ≡ None
    find_gap [] at p = refl
    find_gap (e ∷ es) zero p = rw (turned o e.0 k Greater (p.1 0 e (omega arith) (omega arith))) (find_gap es 0 (parts_above e es p))
    find_gap (e ∷ es) (suc at) p = rw (turned o e.0 k Less (p.0 0 e (omega arith))) (find_gap es at (parts_behind e es at p))

    pub put_gap : (v : X) (es : List (K × X)) (at : ℕ) → at ≤ length es → Parts es at → put R k v es ≡ insert es at (k, v)
    put_gap v [] at le p = grind arith
    put_gap v (e ∷ es) zero le p = rw (turned o e.0 k Greater (p.1 0 e (omega arith) (omega arith)))
    put_gap v (e ∷ es) (suc at) le p = rw (turned o e.0 k Less (p.0 0 e (omega arith))) (ap (λ rest. e ∷ rest) (put_gap v es at (omega arith) (parts_behind e es at p)))

    pub where_none : (es : List (K × X)) → find R k es ≡ None → where_key R (λ x. not (eq_by_cmp R k x)) es ≡ es
    where_none [] none = refl
    where_none (e ∷ es) none =
        elim (eq_by_cmp R k e.0) as (λ b. cond b (Some e.1) (find R k es) ≡ None → cond (not b) (e ∷ where_key R (λ x. not (eq_by_cmp R k x)) es) (where_key R (λ x. not (eq_by_cmp R k x)) es) ≡ e ∷ es) [
          | true ↦ λ is. absurd (subst (λ r. T (is_some r)) is tt)
          | false ↦ λ is. ap (λ rest. e ∷ rest) (where_none es is)
        ] none

  -- ---- neighbours

  abbrev pub Neighbours : List (K × X) → Type 0
  Neighbours es = (k : ℕ) (d : K × X) → suc k < length es → R (get_or es k d).0 (get_or es (suc k) d).0 ≡ Less

  skip : (p e : K × X) (es : List (K × X)) → Neighbours (p ∷ e ∷ es) → Neighbours (p ∷ es)
  skip p e [] h k d lt = absurd (omega arith)
  skip p e (f ∷ es) h zero d lt = o.trans p.0 e.0 f.0 (h zero d (omega arith)) (h (suc zero) d (omega arith))
  skip p e (f ∷ es) h (suc k) d lt = h (suc (suc k)) d (omega arith)

  below_next : (p : K × X) (es : List (K × X)) → Neighbours (p ∷ es) → T (below_all R p.0 es)
  below_next p [] h = tt
  below_next p (e ∷ es) h = both _ _ (is_less _ (h zero p (omega arith))) (below_next p es (skip p e es h))

  -- keys that rise from each place to the next are in order
  pub sorted_next : (es : List (K × X)) → Neighbours es → T (is_sorted R es)
  sorted_next [] h = tt
  sorted_next (e ∷ es) h = both _ _ (below_next e es h) (sorted_next es (λ k d lt. h (suc k) d (omega arith)))
