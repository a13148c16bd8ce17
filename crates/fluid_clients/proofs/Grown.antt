-- Rounds over one slot more.
use Rattle.std.proofs.Common.{Result, Ok, Err, OnOk, ◌≡◌, ◌≢◌, ℕ, zero, suc, ◌+◌, ◌-◌, ◌<◌, ◌≤◌, ◌⊎◌, inl, inr, List, [], ◌∷◌, ◌++◌, length, get_or, set, Option, None, Some, refl, sym, ap, subst, ◌∙◌, arith, get_or-set_other, get_or-set_same, length-set}
use Rattle.std.specs.Result.{IsErr}
use Rattle.std.proofs.lemmas.Bool.{cases_lt, cases_eq, false≢true}
use Rattle.std.proofs.lemmas.List.{get_or_past, get_or_append_left, get_or-append_right, length-append}
use Rattle.fluid_clients.specs.Rounds.{width, first, round_of, winner_of, root_of, IsHigh, IsWidened, IsShaped, HasRoom, IsBest, IsTournament}
use Rattle.fluid_clients.proofs.Winners.{within, best-beyond, best-more}
use Rattle.fluid_clients.proofs.Played.{IsBelow, first-mono, width-some, child}
use Rattle.fluid_clients.proofs.Without.{root-best}

-- what a refusal owes of a success
pub refused : {A E : Type 0} (r : Result A E) (P : Type 0) → IsErr r → OnOk r P
refused (Ok a) P is = absurd (false≢true is)
refused (Err e) P is = tt

-- ---- one round is another

module _ (rounds : List (List (Option ℕ))) (k : ℕ) (there : k < length rounds) (new : List (Option ℕ)) where
  pub reround-same : round_of (set rounds k new) k ≡ new
  reround-same = get_or-set_same rounds k new [] there

  pub reround-other : (j : ℕ) → j ≢ k → round_of (set rounds k new) j ≡ round_of rounds j
  reround-other j ne = get_or-set_other rounds k j new [] ne

  -- the rounds up to this one have room, where it has room
  pub rooms_next : (n : ℕ) → ((j : ℕ) → j < k → suc n ≤ first j (length (round_of rounds j))) → suc n ≤ first k (length new) → (j : ℕ) → j < k + 1 →
      suc n ≤ first j (length (round_of (set rounds k new) j))
  rooms_next n rooms room j lt =
      elim (cases_eq j k) as (λ _. suc n ≤ first j (length (round_of (set rounds k new) j))) [
        | inl same ↦ subst (λ i. suc n ≤ first i (length (round_of (set rounds k new) i))) (sym same) (subst (λ r. suc n ≤ first k (length r)) (sym reround-same) room)
        | inr ne ↦ subst (λ r. suc n ≤ first j (length r)) (sym (reround-other j ne)) (rooms j (let ne : j ≢ k = ne in omega arith))
      ]

  module _ (n : ℕ) (shape : IsShaped n rounds) (covers : n ≤ first k (length new)) (few : first k (length new) ≤ n + width k) where
    covers_each : (j : ℕ) → j < length rounds → n ≤ first j (length (round_of (set rounds k new) j))
    covers_each j lt =
        elim (cases_eq j k) as (λ _. n ≤ first j (length (round_of (set rounds k new) j))) [
          | inl same ↦ subst (λ i. n ≤ first i (length (round_of (set rounds k new) i))) (sym same) (subst (λ r. n ≤ first k (length r)) (sym reround-same) covers)
          | inr ne ↦ subst (λ r. n ≤ first j (length r)) (sym (reround-other j ne)) (shape.covers j lt)
        ]

    few_each : (j : ℕ) → j < length rounds → first j (length (round_of (set rounds k new) j)) ≤ n + width j
    few_each j lt =
        elim (cases_eq j k) as (λ _. first j (length (round_of (set rounds k new) j)) ≤ n + width j) [
          | inl same ↦ subst (λ i. first i (length (round_of (set rounds k new) i)) ≤ n + width i) (sym same) (subst (λ r. first k (length r) ≤ n + width k) (sym reround-same) few)
          | inr ne ↦ subst (λ r. first j (length r) ≤ n + width j) (sym (reround-other j ne)) (shape.few j lt)
        ]

    pub reround-shape : IsShaped n (set rounds k new)
    reround-shape = record {
      covers = λ j lt. covers_each j (omega (arith, lt, length-set rounds k new));
      few = λ j lt. few_each j (omega (arith, lt, length-set rounds k new));
      some = λ some. (let many = shape.some some in omega (arith, many, length-set rounds k new));
      high = λ j last. shape.high j (omega (arith, last, length-set rounds k new));
      low = λ j last. shape.low j (omega (arith, last, length-set rounds k new));
    }

module _ {X : Type 0} (number : X → ℕ) (slots : List (Option X)) (rounds : List (List (Option ℕ))) (right : IsTournament number slots rounds) where
  reround : (k : ℕ) (new : List (Option ℕ)) → k < length rounds → length slots ≤ first k (length new) → first k (length new) ≤ length slots + width k →
      ((node : ℕ) → node < length new → IsBest number slots (first k node) (first k (suc node)) (get_or new node None)) → IsTournament number slots (set rounds k new)
  reround k new there covers few best = record {
    shape = reround-shape rounds k there new (length slots) right.shape covers few;
    best = λ j node lt in_round.
        elim (cases_eq j k) as (λ _. IsBest number slots (first j node) (first j (suc node)) (winner_of (set rounds k new) j node)) [
          | inl same ↦ subst (λ i. IsBest number slots (first i node) (first i (suc node)) (winner_of (set rounds k new) i node)) (sym same)
              (subst (λ r. IsBest number slots (first k node) (first k (suc node)) (get_or r node None)) (sym (reround-same rounds k there new))
              (best node (subst (λ r. node < length r) (reround-same rounds k there new) (subst (λ i. node < length (round_of (set rounds k new) i)) same in_round))))
          | inr ne ↦ subst (λ r. IsBest number slots (first j node) (first j (suc node)) (get_or r node None)) (sym (reround-other rounds k there new j ne))
              (right.best j node (omega (arith, lt, length-set rounds k new)) (subst (λ r. node < length r) (reround-other rounds k there new j ne) in_round))
        ];
  }

  -- a round that is as it was
  pub kept : (k : ℕ) (new : List (Option ℕ)) → k < length rounds → new ≡ round_of rounds k → IsTournament number slots (set rounds k new)
  kept k new there is =
      reround k new there
      (subst (λ r. length slots ≤ first k (length r)) (sym is) (right.shape.covers k there))
      (subst (λ r. first k (length r) ≤ length slots + width k) (sym is) (right.shape.few k there))
      (λ node lt. subst (λ r. IsBest number slots (first k node) (first k (suc node)) (get_or r node None)) (sym is) (right.best k node there (subst (λ r. node < length r) is lt)))

  module _ (k node : ℕ) (there : k < length rounds) (below : IsBelow (length slots) k node) where
    abbrev pub round : List (Option ℕ)
    round = round_of rounds k

    longer : length (round ++ None ∷ []) ≡ suc (length round)
    longer = let sum = length-append round (None ∷ []) in omega (arith, sum)

    -- a round with its next node, over which the next slot will be
    pub wider : node ≡ length round → IsTournament number slots (set rounds k (round ++ None ∷ []))
    wider is =
        let covers = right.shape.covers k there in
        let at : first k node ≡ first k (length round) = ap (first k) is in
        reround k (round ++ None ∷ []) there
        (subst (λ l. length slots ≤ first k l) (sym longer) (omega (arith, covers)))
        (subst (λ l. first k l ≤ length slots + width k) (sym longer) (omega (arith, below.0, at)))
        (λ other lt. elim (cases_lt other (length round)) as (λ _. IsBest number slots (first k other) (first k (suc other)) (get_or (round ++ None ∷ []) other None)) [
          | inl before ↦ subst (IsBest number slots (first k other) (first k (suc other))) (sym (get_or_append_left round (None ∷ []) None other before)) (right.best k other there before)
          | inr last ↦
              let up = first-mono k (length round) other last in
              let same : other ≡ length round = omega (arith, last, lt, longer) in
              let none : get_or (round ++ None ∷ []) other None ≡ None = ap (λ i. get_or (round ++ None ∷ []) i None) same ∙ get_or-append_end round in
              subst (IsBest number slots (first k other) (first k (suc other))) (sym none) (best-beyond number slots (first k other) (first k (suc other)) (omega (arith, covers, up)))
        ])
      where
        get_or-append_end : (r : List (Option ℕ)) → get_or (r ++ None ∷ []) (length r) None ≡ None
        get_or-append_end [] = refl
        get_or-append_end (x ∷ r) = get_or-append_end r

    pub wider-room : node ≡ length round → suc (length slots) ≤ first k (length (round ++ None ∷ []))
    wider-room is = subst (λ l. suc (length slots) ≤ first k l) (sym longer) (let same : first k (suc node) ≡ first k (suc (length round)) = ap (λ i. first k (suc i)) is in omega (arith, below.1, same))

    -- a round that has the node already
    pub wide-room : node ≢ length round → suc (length slots) ≤ first k (length round)
    wide-room ne =
        let covers = right.shape.covers k there in
        elim (cases_lt node (length round)) as (λ _. suc (length slots) ≤ first k (length round)) [
          | inl lt ↦ let up = first-mono k (suc node) (length round) lt in omega (arith, up, below.1)
          | inr ge ↦
              let ne : node ≢ length round = ne in
              let up = first-mono k (suc (length round)) node (omega arith) in
              let some = width-some k in
              absurd (omega (arith, up, covers, some, below.0))
        ]

    pub widened : (new : List (Option ℕ)) → IsWidened node round new → IsTournament number slots (set rounds k new) × (suc (length slots) ≤ first k (length new))
    widened new (inl is) = (
      subst (λ r. IsTournament number slots (set rounds k r)) (sym is.1) (wider is.0),
      subst (λ r. suc (length slots) ≤ first k (length r)) (sym is.1) (wider-room is.0),
    )
    widened new (inr is) = (kept k new there is.1, subst (λ r. suc (length slots) ≤ first k (length r)) (sym is.1) (wide-room is.0))

-- ---- one round more

best-ends : {X : Type 0} (number : X → ℕ) (slots : List (Option X)) (from to end : ℕ) (w : Option ℕ) → length slots ≤ to → length slots ≤ end → IsBest number slots from to w → IsBest number slots from end w
best-ends number slots from to end None le le_end h =
    λ i lo hi. elim (cases_lt i (length slots)) as (λ _. get_or slots i None ≡ None) [ inl lt ↦ h i lo (omega (arith, lt, le)) | inr ge ↦ get_or_past slots i None ge ]
best-ends number slots from to end (Some w) le le_end h = record {
  low = h.low;
  high = (let lt = within slots w h.value h.holds in omega (arith, lt, le_end));
  value = h.value;
  holds = h.holds;
  least = λ i held lo hi is. (let lt = within slots i held is in h.least i held lo (omega (arith, lt, le)) is);
}

module _ (n : ℕ) (rounds : List (List (Option ℕ))) (shape : IsShaped n rounds) (room : HasRoom n rounds) where
  -- where the last round has one node, there is room for a slot more
  pub high-shape : IsHigh rounds → IsShaped (suc n) rounds
  high-shape high = record {
    covers = room;
    few = λ k lt. (let few = shape.few k lt in omega (arith, few));
    some = λ some. high.0;
    high = λ k last. top k last;
    low = λ k last. (let low = shape.low k last in omega (arith, low));
  }
    where
      top : (k : ℕ) → suc k ≡ length rounds → suc n ≤ width k
      top k last =
          let at : length rounds - 1 ≡ k = omega (arith, last) in
          let one : length (round_of rounds k) < 2 = subst (λ i. length (round_of rounds i) < 2) at high.1 in
          let up = first-mono k (length (round_of rounds k)) 1 (omega (arith, one)) in
          let room = room k (omega (arith, last)) in
          omega (arith, up, room)

  module _ (low : IsHigh rounds → ⊥) (winner : Option ℕ) where
    abbrev pub higher : List (List (Option ℕ))
    higher = rounds ++ (winner ∷ []) ∷ []

    count : length higher ≡ suc (length rounds)
    count = let sum = length-append rounds ((winner ∷ []) ∷ []) in omega (arith, sum)

    pub before : (j : ℕ) → j < length rounds → round_of higher j ≡ round_of rounds j
    before j lt = get_or_append_left rounds ((winner ∷ []) ∷ []) [] j lt

    pub last : round_of higher (length rounds) ≡ winner ∷ []
    last = end rounds
      where
        end : (rs : List (List (Option ℕ))) → get_or (rs ++ (winner ∷ []) ∷ []) (length rs) [] ≡ winner ∷ []
        end [] = refl
        end (r ∷ rs) = end rs

    -- the new round is wide enough
    top_width : suc n ≤ width (length rounds)
    top_width = by (length rounds) refl
      where
        by : (l : ℕ) → l ≡ length rounds → suc n ≤ width l
        by zero is = none n refl
          where
            none : (m : ℕ) → m ≡ n → suc n ≤ 1
            none zero same = omega (arith, same)
            none (suc m) same = absurd (let some = shape.some (omega (arith, same)) in omega (arith, some, is))
        by (suc k) is = let high = shape.high k is in let some = width-some k in omega (arith, high, some)

    -- and needed
    top_low : (k : ℕ) → suc k ≡ length rounds → width (suc k) ≤ n + n
    top_low k is =
        let there : k < length rounds = omega (arith, is) in
        let few = shape.few k there in
        let at : k ≡ length rounds - 1 = omega (arith, is) in
        elim (cases_lt (length (round_of rounds k)) 2) as (λ _. width (suc k) ≤ n + n) [
          | inl one ↦ absurd (low (omega (arith, there), subst (λ i. length (round_of rounds i) < 2) at one))
          | inr two ↦ let up = first-mono k 2 (length (round_of rounds k)) two in omega (arith, up, few)
        ]

    first_one : (k : ℕ) → first k 1 ≡ width k
    first_one k = omega arith

    higher_for : (m : ℕ) → n ≤ m → m ≤ suc n → ((k : ℕ) → k < length rounds → m ≤ first k (length (round_of rounds k))) → IsShaped m higher
    higher_for m lo hi covers = record {
      covers = λ j lt. elim (cases_lt j (length rounds)) as (λ _. m ≤ first j (length (round_of higher j))) [
        | inl old ↦ subst (λ r. m ≤ first j (length r)) (sym (before j old)) (covers j old)
        | inr ge ↦
            let same : length rounds ≡ j = omega (arith, ge, lt, count) in
            subst (λ i. m ≤ first i (length (round_of higher i))) same (subst (λ r. m ≤ first (length rounds) (length r)) (sym last) (let wide = top_width in let one = first_one (length rounds) in omega (arith, wide, one, hi)))
      ];
      few = λ j lt. elim (cases_lt j (length rounds)) as (λ _. first j (length (round_of higher j)) ≤ m + width j) [
        | inl old ↦ subst (λ r. first j (length r) ≤ m + width j) (sym (before j old)) (let few = shape.few j old in omega (arith, few, lo))
        | inr ge ↦
            let same : length rounds ≡ j = omega (arith, ge, lt, count) in
            subst (λ i. first i (length (round_of higher i)) ≤ m + width i) same (subst (λ r. first (length rounds) (length r) ≤ m + width (length rounds)) (sym last) (let one = first_one (length rounds) in omega (arith, one)))
      ];
      some = λ some. omega (arith, count);
      high = λ k is. (let same : length rounds ≡ k = omega (arith, is, count) in subst (λ i. m ≤ width i) same (let wide = top_width in omega (arith, wide, hi)));
      low = λ k is. (let low = top_low k (omega (arith, is, count)) in omega (arith, low, lo));
    }

    pub higher-shape : IsShaped n higher
    higher-shape = higher_for n (omega arith) (omega arith) shape.covers

    pub higher-room : IsShaped (suc n) higher
    higher-room = higher_for (suc n) (omega arith) (omega arith) room

module _ {X : Type 0} (number : X → ℕ) (slots : List (Option X)) (rounds : List (List (Option ℕ))) (right : IsTournament number slots rounds) (room : HasRoom (length slots) rounds) (low : IsHigh rounds → ⊥) where
  -- the winner of all is the winner of the new round's match
  pub heightened : IsTournament number slots (rounds ++ (root_of rounds ∷ []) ∷ [])
  heightened = record {
    shape = higher-shape (length slots) rounds right.shape room low (root_of rounds);
    best = λ j node lt in_round.
        elim (cases_lt j (length rounds)) as (λ _. IsBest number slots (first j node) (first j (suc node)) (winner_of (rounds ++ (root_of rounds ∷ []) ∷ []) j node)) [
          | inl old ↦
              let same = before (length slots) rounds right.shape room low (root_of rounds) j old in
              subst (λ r. IsBest number slots (first j node) (first j (suc node)) (get_or r node None)) (sym same) (right.best j node old (subst (λ r. node < length r) same in_round))
          | inr ge ↦
              let sum = length-append rounds ((root_of rounds ∷ []) ∷ []) in
              let same : length rounds ≡ j = omega (arith, ge, lt, sum) in
              subst (λ i. IsBest number slots (first i node) (first i (suc node)) (winner_of (rounds ++ (root_of rounds ∷ []) ∷ []) i node)) same
              (top node (subst (λ r. node < length r) (last (length slots) rounds right.shape room low (root_of rounds)) (subst (λ i. node < length (round_of (rounds ++ (root_of rounds ∷ []) ∷ []) i)) (sym same) in_round)))
        ];
  }
    where
      top : (node : ℕ) → node < 1 → IsBest number slots (first (length rounds) node) (first (length rounds) (suc node)) (winner_of (rounds ++ (root_of rounds ∷ []) ∷ []) (length rounds) node)
      top zero lt =
          let best = root-best number slots rounds right in
          let shape = higher-shape (length slots) rounds right.shape room low (root_of rounds) in
          let sum = length-append rounds ((root_of rounds ∷ []) ∷ []) in
          let high = shape.high (length rounds) (omega (arith, sum)) in
          subst (λ r. IsBest number slots 0 (first (length rounds) 1) (get_or r 0 None)) (sym (last (length slots) rounds right.shape room low (root_of rounds)))
          (best-ends number slots 0 best.0 (first (length rounds) 1) (root_of rounds) best.1 (omega (arith, high)) best.2)
      top (suc node) lt = absurd (omega (arith, lt))

-- ---- one slot more

pub grown : {X : Type 0} (number : X → ℕ) (slots : List (Option X)) (rounds : List (List (Option ℕ))) → IsTournament number slots rounds → IsShaped (length slots + 1) rounds → IsTournament number (slots ++ None ∷ []) rounds
grown number slots rounds right shape = record {
  shape = subst (λ n. IsShaped n rounds) (sym (length-append slots (None ∷ []))) shape;
  best = λ j node lt in_round. best-more number slots (first j node) (first j (suc node)) (winner_of rounds j node) (right.best j node lt in_round);
}

-- ---- no slots

pub begun : {X : Type 0} (number : X → ℕ) → IsTournament number [] []
begun number = record {
  shape = record {
    covers = λ k lt. absurd (omega (arith, lt));
    few = λ k lt. absurd (omega (arith, lt));
    some = λ some. absurd (omega (arith, some));
    high = λ k is. absurd (omega (arith, is));
    low = λ k is. absurd (omega (arith, is));
  };
  best = λ k node lt in_round. absurd (omega (arith, lt));
}
