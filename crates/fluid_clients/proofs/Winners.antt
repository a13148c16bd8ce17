-- Who wins among the slots from one place to another.
use Rattle.std.proofs.Common.{◌≡◌, ◌≢◌, ℕ, zero, suc, ◌+◌, ◌<◌, ◌≤◌, ◌⊎◌, inl, inr, List, [], ◌∷◌, ◌++◌, length, get_or, set, Option, None, Some, refl, sym, ap, subst, ◌∙◌, arith, get_or-set_other, get_or-set_same}
use Rattle.std.proofs.lemmas.Bool.{cases_lt, cases_eq}
use Rattle.std.proofs.lemmas.Option.{none-some, same_Some}
use Rattle.std.proofs.lemmas.List.{get_or_past, get_or_append_left, get_or-append_right}
use Rattle.fluid_clients.specs.Index.{Holds, IsLeastHeld}
use Rattle.fluid_clients.specs.Rounds.{IsHeld, IsAtMost, IsPick, IsWinner, IsBest, IsBestWithout}

module _ {X : Type 0} where
  pub within : (slots : List (Option X)) (i : ℕ) (v : X) → Holds slots i v → i < length slots
  within [] i v is = absurd (none-some v is)
  within (x ∷ slots) zero v is = omega arith
  within (x ∷ slots) (suc i) v is = let lt = within slots i v is in omega arith

  pub elsewhere : (slots : List (Option X)) (slot i : ℕ) (v : Option X) → i ≢ slot → get_or (set slots slot v) i None ≡ get_or slots i None
  elsewhere slots slot i v ne = get_or-set_other slots slot i v None ne

  -- what a slot holds when another is emptied, it held before
  pub held_before : (slots : List (Option X)) (slot i : ℕ) (v : X) → Holds (set slots slot None) i v → Holds slots i v
  held_before slots slot i v is =
      elim (cases_eq i slot) as (λ _. Holds slots i v) [
        | inl same ↦ absurd (emptied slots slot i v same is)
        | inr ne ↦ sym (elsewhere slots slot i None ne) ∙ is
      ]
    where
      emptied : (slots : List (Option X)) (slot i : ℕ) (v : X) → i ≡ slot → Holds (set slots slot None) i v → ⊥
      emptied [] slot i v same is = none-some v is
      emptied (x ∷ slots) zero zero v same is = none-some v is
      emptied (x ∷ slots) zero (suc i) v same is = absurd (omega (arith, same))
      emptied (x ∷ slots) (suc slot) zero v same is = absurd (omega (arith, same))
      emptied (x ∷ slots) (suc slot) (suc i) v same is = emptied slots slot i v (omega (arith, same)) is

  -- one more slot holds nothing
  pub one_more : (slots : List (Option X)) (i : ℕ) → get_or (slots ++ None ∷ []) i None ≡ get_or slots i None
  one_more [] zero = refl
  one_more [] (suc i) = refl
  one_more (x ∷ slots) zero = refl
  one_more (x ∷ slots) (suc i) = one_more slots i

  module _ (number : X → ℕ) where
    apart : (slot from to i : ℕ) → (slot < from) ⊎ (to ≤ slot) → from ≤ i → i < to → i ≢ slot
    apart slot from to i (inl low) lo hi = λ e. absurd (omega (arith, e, low, lo))
    apart slot from to i (inr high) lo hi = λ e. absurd (omega (arith, e, high, hi))

    -- a slot elsewhere changes nothing
    pub best-elsewhere : (slots : List (Option X)) (slot : ℕ) (v : Option X) (from to : ℕ) (w : Option ℕ) → (slot < from) ⊎ (to ≤ slot) → IsBest number slots from to w → IsBest number (set slots slot v) from to w
    best-elsewhere slots slot v from to None out h = λ i lo hi. elsewhere slots slot i v (apart slot from to i out lo hi) ∙ h i lo hi
    best-elsewhere slots slot v from to (Some w) out h = record {
      low = h.low;
      high = h.high;
      value = h.value;
      holds = elsewhere slots slot w v (apart slot from to w out h.low h.high) ∙ h.holds;
      least = λ i held lo hi is. h.least i held lo hi (sym (elsewhere slots slot i v (apart slot from to i out lo hi)) ∙ is);
    }

    pub best-more : (slots : List (Option X)) (from to : ℕ) (w : Option ℕ) → IsBest number slots from to w → IsBest number (slots ++ None ∷ []) from to w
    best-more slots from to None h = λ i lo hi. one_more slots i ∙ h i lo hi
    best-more slots from to (Some w) h = record {
      low = h.low;
      high = h.high;
      value = h.value;
      holds = one_more slots w ∙ h.holds;
      least = λ i held lo hi is. h.least i held lo hi (sym (one_more slots i) ∙ is);
    }

    -- behind the slots there is nothing
    pub best-beyond : (slots : List (Option X)) (from to : ℕ) → length slots ≤ from → IsBest number slots from to None
    best-beyond slots from to past = λ i lo hi. get_or_past slots i None (omega arith)

    -- a slot alone
    pub best-alone : (slots : List (Option X)) (slot : ℕ) (v : X) → Holds slots slot v → IsBest number slots slot (suc slot) (Some slot)
    best-alone slots slot v is = record {
      low = omega arith;
      high = omega arith;
      value = v;
      holds = is;
      least = λ i held lo hi at.
          let same : i ≡ slot = omega arith in
          let values : held ≡ v = same_Some _ _ (sym (subst (λ j. get_or slots j None ≡ Some held) same at) ∙ is) in
          subst (λ x. number v ≤ number x) (sym values) (omega arith);
    }

    pub best-empty : (slots : List (Option X)) (slot : ℕ) → get_or slots slot None ≡ None → IsBest number slots slot (suc slot) None
    best-empty slots slot is = λ i lo hi. let same : i ≡ slot = omega arith in ap (λ j. get_or slots j None) same ∙ is

    pub best-held : (slots : List (Option X)) (from to : ℕ) (w : Option ℕ) → IsBest number slots from to w → IsHeld slots w
    best-held slots from to None h = tt
    best-held slots from to (Some w) h = (h.value, h.holds)

    empty_both : (slots : List (Option X)) (from mid to : ℕ) → IsBest number slots from mid None → IsBest number slots mid to None → IsBest number slots from to None
    empty_both slots from mid to left right =
        λ i lo hi. elim (cases_lt i mid) as (λ _. get_or slots i None ≡ None) [ inl lt ↦ left i lo lt | inr ge ↦ right i ge hi ]

    left_wins : (slots : List (Option X)) (from mid to w : ℕ) → mid ≤ to → IsWinner number slots from mid w →
        ((v : X) → Holds slots w v → (i : ℕ) (held : X) → mid ≤ i → i < to → Holds slots i held → number v ≤ number held) → IsWinner number slots from to w
    left_wins slots from mid to w le h above = record {
      low = h.low;
      high = (let high = h.high in omega arith);
      value = h.value;
      holds = h.holds;
      least = λ i held lo hi is. elim (cases_lt i mid) as (λ _. number h.value ≤ number held) [ inl lt ↦ h.least i held lo lt is | inr ge ↦ above h.value h.holds i held ge hi is ];
    }

    right_wins : (slots : List (Option X)) (from mid to w : ℕ) → from ≤ mid → IsWinner number slots mid to w →
        ((v : X) → Holds slots w v → (i : ℕ) (held : X) → from ≤ i → i < mid → Holds slots i held → number v ≤ number held) → IsWinner number slots from to w
    right_wins slots from mid to w le h above = record {
      low = (let low = h.low in omega arith);
      high = h.high;
      value = h.value;
      holds = h.holds;
      least = λ i held lo hi is. elim (cases_lt i mid) as (λ _. number h.value ≤ number held) [ inl lt ↦ above h.value h.holds i held lo lt is | inr ge ↦ h.least i held ge hi is ];
    }

    -- the better of the best on the left and of the best on the right is the best of both sides
    pub joined : (slots : List (Option X)) (from mid to : ℕ) (a b w : Option ℕ) → from ≤ mid → mid ≤ to → IsBest number slots from mid a → IsBest number slots mid to b → IsPick number slots a b w →
        IsBest number slots from to w
    joined slots from mid to None None w lo hi left right pick = subst (IsBest number slots from to) (sym pick) (empty_both slots from mid to left right)
    joined slots from mid to None (Some j) w lo hi left right pick =
        subst (IsBest number slots from to) (sym pick) (right_wins slots from mid to j lo right (λ v at i held l h is. absurd (none-some held (sym (left i l h) ∙ is))))
    joined slots from mid to (Some i) None w lo hi left right pick =
        subst (IsBest number slots from to) (sym pick) (left_wins slots from mid to i hi left (λ v at k held l h is. absurd (none-some held (sym (right k l h) ∙ is))))
    joined slots from mid to (Some i) (Some j) w lo hi left right (inl pick) =
        subst (IsBest number slots from to) (sym pick.0)
        (left_wins slots from mid to i hi left (λ v at k held l h is. let one = pick.1 v right.value at right.holds in let other = right.least k held l h is in omega (arith, one, other)))
    joined slots from mid to (Some i) (Some j) w lo hi left right (inr pick) =
        subst (IsBest number slots from to) (sym pick.0)
        (right_wins slots from mid to j lo right (λ v at k held l h is. let one = pick.1 v left.value at left.holds in let other = left.least k held l h is in omega (arith, one, other)))

    -- a match is the same from either side
    pub pick-turned : (slots : List (Option X)) (a b w : Option ℕ) → IsPick number slots a b w → IsPick number slots b a w
    pick-turned slots None None w is = is
    pick-turned slots None (Some j) w is = is
    pick-turned slots (Some i) None w is = is
    pick-turned slots (Some i) (Some j) w (inl is) = inr is
    pick-turned slots (Some i) (Some j) w (inr is) = inl is

    -- and where a slot that isn't in it is emptied
    pub pick-without : (slots : List (Option X)) (slot : ℕ) (a b w : Option ℕ) → IsPick number slots a b w → IsPick number (set slots slot None) a b w
    pick-without slots slot None b w is = is
    pick-without slots slot (Some i) None w is = is
    pick-without slots slot (Some i) (Some j) w (inl is) = inl (is.0, λ v held at other. is.1 v held (held_before slots slot i v at) (held_before slots slot j held other))
    pick-without slots slot (Some i) (Some j) w (inr is) = inr (is.0, λ v held at other. is.1 v held (held_before slots slot j v at) (held_before slots slot i held other))

    pub held-without : (slots : List (Option X)) (slot : ℕ) (w : Option ℕ) → IsHeld (set slots slot None) w → IsHeld slots w
    held-without slots slot None h = tt
    held-without slots slot (Some w) h = (h.0, held_before slots slot w h.0 h.1)

    -- the best up to a place behind the slots is the least of all
    pub least-none : (slots : List (Option X)) (to : ℕ) → length slots ≤ to → IsBest number slots 0 to None → IsLeastHeld number slots None
    least-none slots to le h = λ i. elim (cases_lt i to) as (λ _. get_or slots i None ≡ None) [ inl lt ↦ h i (omega arith) lt | inr ge ↦ get_or_past slots i None (omega arith) ]

    pub least-some : (slots : List (Option X)) (to w : ℕ) (v : X) → length slots ≤ to → IsBest number slots 0 to (Some w) → Holds slots w v → IsLeastHeld number slots (Some v)
    least-some slots to w v le h at = record {
      slot = w;
      holds = at;
      least = λ i held is.
          let lt = within slots i held is in
          let same : h.value ≡ v = same_Some _ _ (sym h.holds ∙ at) in
          subst (λ x. number x ≤ number held) same (h.least i held (omega arith) (omega arith) is);
    }
