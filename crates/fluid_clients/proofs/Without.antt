-- The winner of all slots but one.
use Rattle.std.proofs.Common.{◌≡◌, ◌≢◌, ℕ, zero, suc, ◌+◌, ◌-◌, ◌/◌, ◌<◌, ◌≤◌, ◌⊎◌, inl, inr, List, [], ◌∷◌, length, get_or, set, Option, None, Some, refl, sym, ap, subst, ◌∙◌, arith, get_or-set_same, length-set}
use Rattle.fluid_clients.specs.Index.{Holds, IsLeastHeld}
use Rattle.fluid_clients.specs.Rounds.{width, first, round_of, winner_of, IsShaped, IsHeld, IsNeighbour, IsPick, IsBest, IsBestWithout, IsTournament, root_of, held_by}
use Rattle.fluid_clients.proofs.Winners.{within, held_before, best-beyond, least-none, least-some, best-elsewhere, best-empty, best-held, held-without, pick-without, pick-turned}
use Rattle.fluid_clients.proofs.Played.{IsBelow, first-zero, other_node, climbed, child, matched}

other_than : (node other : ℕ) → IsNeighbour node other → other ≢ node
other_than node other (inl is) = λ same. absurd (let next = is.2 in omega (arith, same, next))
other_than node other (inr is) = λ same. absurd (let next = is.2 in omega (arith, same, next))

module _ {X : Type 0} (number : X → ℕ) (slots : List (Option X)) (slot : ℕ) where
  abbrev without : List (Option X)
  without = set slots slot None

  pub best-first : slot < length slots → IsBest number without (first 0 slot) (first 0 (suc slot)) None
  best-first lt =
      let same : suc slot ≡ 1 + first 0 slot = (let at = first-zero slot in omega (arith, at)) in
      subst (λ i. IsBest number without i (1 + first 0 slot) None) (sym (first-zero slot))
      (subst (λ i. IsBest number without slot i None) same (best-empty number without slot (get_or-set_same slots slot None None lt)))

  module _ (rounds : List (List (Option ℕ))) (k node other : ℕ) (right : IsTournament number slots rounds) (there : k < length rounds) (below : IsBelow slot k node) (neighbour : IsNeighbour node other) where
    beside : IsBest number slots (first k other) (first k (suc other)) (winner_of rounds k other)
    beside = child number slots rounds k right.shape there (λ node lt. right.best k node there lt) other

    pub beside-held : IsHeld slots (winner_of rounds k other)
    beside-held = best-held number slots (first k other) (first k (suc other)) (winner_of rounds k other) beside

    pub beside-without : IsBest number without (first k other) (first k (suc other)) (winner_of rounds k other)
    beside-without = best-elsewhere number slots slot None (first k other) (first k (suc other)) (winner_of rounds k other) (other_node slot k node other below (other_than node other neighbour)) beside

    pub above : IsBelow slot (suc k) (node / 2)
    above = climbed slot k node (node / 2) (omega arith) (omega arith) below

    -- the match over the node, without the slot
    pub passed : (a w : Option ℕ) → IsBest number without (first k node) (first k (suc node)) a → IsPick number slots a (winner_of rounds k other) w →
        IsBest number without (first (suc k) (node / 2)) (first (suc k) (suc (node / 2))) w
    passed a w own pick = by neighbour
      where
        b : Option ℕ
        b = winner_of rounds k other

        by : IsNeighbour node other → IsBest number without (first (suc k) (node / 2)) (first (suc k) (suc (node / 2))) w
        by (inl is) =
            let at = is.1 in
            let next = is.2 in
            let half : is.0 ≡ node / 2 = omega (arith, at) in
            let other_is : other ≡ suc (is.0 + is.0) = omega (arith, at, next) in
            subst (λ h. IsBest number without (first (suc k) h) (first (suc k) (suc h)) w) half
            (matched number without k is.0 a b w
            (subst (λ i. IsBest number without (first k i) (first k (suc i)) a) at own)
            (subst (λ i. IsBest number without (first k i) (first k (suc i)) b) other_is beside-without)
            (pick-without number slots slot a b w pick))
        by (inr is) =
            let at = is.1 in
            let next = is.2 in
            let half : is.0 ≡ node / 2 = omega (arith, at) in
            let other_is : other ≡ is.0 + is.0 = omega (arith, at, next) in
            subst (λ h. IsBest number without (first (suc k) h) (first (suc k) (suc h)) w) half
            (matched number without k is.0 b a w
            (subst (λ i. IsBest number without (first k i) (first k (suc i)) b) other_is beside-without)
            (subst (λ i. IsBest number without (first k i) (first k (suc i)) a) at own)
            (pick-turned number without a b w (pick-without number slots slot a b w pick)))

  narrowed : (to : ℕ) (w : Option ℕ) → length slots ≤ to → IsBest number without 0 to w → IsBest number without 0 (length slots) w
  narrowed to None le h = λ i lo hi. h i lo (omega (arith, le, hi))
  narrowed to (Some w) le h = record {
    low = h.low;
    high = (let lt = within without w h.value h.holds in omega (arith, lt, length-set slots slot None));
    value = h.value;
    holds = h.holds;
    least = λ i held lo hi is. h.least i held lo (omega (arith, le, hi)) is;
  }

  -- behind the last match
  pub best-last : (rounds : List (List (Option ℕ))) (k node : ℕ) (w : Option ℕ) → IsShaped (length slots) rounds → suc k ≡ length rounds → slot < length slots → IsBelow slot k node →
      IsBest number without (first k node) (first k (suc node)) w → IsBestWithout number slots slot w
  best-last rounds k zero w shape last lt below best =
      narrowed (first k 1) w (let high = shape.high k last in omega (arith, high)) best
  best-last rounds k (suc node) w shape last lt below best = absurd (let high = shape.high k last in omega (arith, high, below.0, lt))

module _ {X : Type 0} (number : X → ℕ) (slots : List (Option X)) where
  -- the best of all slots holds the least value
  pub least-best : (to : ℕ) (w : Option ℕ) → length slots ≤ to → IsBest number slots 0 to w → IsLeastHeld number slots (held_by slots w)
  least-best to None le best = least-none number slots to le best
  least-best to (Some w) le best = subst (IsLeastHeld number slots) (sym best.holds) (least-some number slots to w best.value le best best.holds)

  pub root-best : (rounds : List (List (Option ℕ))) → IsTournament number slots rounds → (to : ℕ) × (length slots ≤ to) × IsBest number slots 0 to (root_of rounds)
  root-best rounds right = by (length rounds) refl
    where
      none : (rounds : List (List (Option ℕ))) → 0 ≡ length rounds → winner_of rounds (length rounds - 1) 0 ≡ None
      none [] is = refl
      none (r ∷ rounds) is = absurd (omega (arith, is))

      by : (count : ℕ) → count ≡ length rounds → (to : ℕ) × (length slots ≤ to) × IsBest number slots 0 to (winner_of rounds (length rounds - 1) 0)
      by zero is =
          let empty : length slots ≤ 0 = empty_slots (length slots) refl in
          (0, empty, subst (IsBest number slots 0 0) (sym (none rounds is)) (best-beyond number slots 0 0 empty))
        where
          empty_slots : (n : ℕ) → n ≡ length slots → n ≤ 0
          empty_slots zero same = omega arith
          empty_slots (suc n) same = absurd (let some = right.shape.some (omega (arith, same)) in omega (arith, some, is))
      by (suc k) is =
          let last : length rounds - 1 ≡ k = omega (arith, is) in
          let there : k < length rounds = omega (arith, is) in
          let high = right.shape.high k is in (
            first k 1,
            omega (arith, high),
            subst (λ i. IsBest number slots 0 (first k 1) (winner_of rounds i 0)) (sym last) (child number slots rounds k right.shape there (λ node lt. right.best k node there lt) 0),
          )

  pub root-held : (rounds : List (List (Option ℕ))) → IsTournament number slots rounds → IsHeld slots (root_of rounds)
  root-held rounds right = let best = root-best rounds right in best-held number slots 0 best.0 (root_of rounds) best.2

  pub least-root : (rounds : List (List (Option ℕ))) → IsTournament number slots rounds → IsLeastHeld number slots (held_by slots (root_of rounds))
  least-root rounds right = let best = root-best rounds right in least-best best.0 (root_of rounds) best.1 best.2

  -- and the best without a slot the least of the others
  pub least-without : (slot : ℕ) (w : Option ℕ) → IsBestWithout number slots slot w → IsLeastHeld number (set slots slot None) (held_by slots w)
  least-without slot None best = least-none number (set slots slot None) (length slots) (omega (arith, length-set slots slot None)) best
  least-without slot (Some w) best =
      subst (IsLeastHeld number (set slots slot None)) (sym (held_before slots slot w best.value best.holds))
      (least-some number (set slots slot None) (length slots) w best.value (omega (arith, length-set slots slot None)) best best.holds)

  pub without-held : (slot : ℕ) (w : Option ℕ) → IsBestWithout number slots slot w → IsHeld slots w
  without-held slot w best = held-without number slots slot w (best-held number (set slots slot None) 0 (length slots) w best)
