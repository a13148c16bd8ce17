-- Matches that are played again, round by round.
use Rattle.std.proofs.Common.{◌≡◌, ◌≢◌, ℕ, zero, suc, ◌+◌, ◌-◌, ◌*◌, ◌^◌, ◌<◌, ◌≤◌, ◌⊎◌, inl, inr, List, [], ◌∷◌, ◌++◌, length, get_or, set, Option, None, Some, refl, sym, ap, subst, ◌∙◌, arith, get_or-set_other, get_or-set_same, length-set}
use Rattle.std.proofs.Math.Pow.{pow_mono}
use Rattle.std.proofs.Math.Nat.{pow-suc}
use Rattle.std.proofs.lemmas.Bool.{cases_lt, cases_eq}
use Rattle.std.proofs.lemmas.List.{get_or_past}
use Rattle.fluid_clients.specs.Rounds.{width, first, round_of, winner_of, IsShaped, IsHeld, IsPick, IsBest, IsTournament, IsElsewhere, IsTournamentBut}
use Rattle.fluid_clients.proofs.Winners.{best-elsewhere, best-beyond, best-alone, best-empty, best-held, joined}

-- ---- the slots below a node

pub first-zero : (node : ℕ) → first 0 node ≡ node
first-zero zero = refl
first-zero (suc node) = let rest = first-zero node in omega (arith, rest)

pub first-halves : (k node : ℕ) → first (suc k) node ≡ first k (node + node)
first-halves k zero = refl
first-halves k (suc node) =
    let rest = first-halves k node in
    let twice : suc node + suc node ≡ suc (suc (node + node)) = omega arith in
    (let sum : width (suc k) + first (suc k) node ≡ width k + (width k + first k (node + node)) = omega (arith, rest) in sum) ∙ ap (first k) (sym twice)

pub first-mono : (k i j : ℕ) → i ≤ j → first k i ≤ first k j
first-mono k zero j le = omega arith
first-mono k (suc i) zero le = absurd (omega arith)
first-mono k (suc i) (suc j) le = let rest = first-mono k i j (omega arith) in omega (arith, rest)

pub width-some : (k : ℕ) → 0 < width k
width-some zero = omega arith
width-some (suc k) = let rest = width-some k in omega (arith, rest)

-- the slot is below the node
abbrev pub IsBelow : ℕ → ℕ → ℕ → Type 0
IsBelow slot k node = (first k node ≤ slot) × (slot < first k (suc node))

-- and below no other one of the round
pub other_node : (slot k node other : ℕ) → IsBelow slot k node → other ≢ node → IsElsewhere slot k other
other_node slot k node other below ne =
    elim (cases_lt other node) as (λ _. IsElsewhere slot k other) [
      | inl lt ↦ inr (let up = first-mono k (suc other) node (omega arith) in omega (arith, up, below.0))
      | inr ge ↦ inl (let up = first-mono k (suc node) other (let ne : other ≢ node = ne in omega arith) in omega (arith, up, below.1))
    ]

-- a slot is below the node over its node
pub climbed : (slot k node half : ℕ) → half + half ≤ node → node ≤ suc (half + half) → IsBelow slot k node → IsBelow slot (suc k) half
climbed slot k node half lo hi below =
    let one = first-halves k half in
    let other = first-halves k (suc half) in
    let twice : suc half + suc half ≡ suc (suc (half + half)) = omega arith in
    let end : first (suc k) (suc half) ≡ first k (suc (suc (half + half))) = other ∙ ap (first k) twice in
    let low = first-mono k (half + half) node lo in
    let high = first-mono k (suc node) (suc (suc (half + half))) (omega arith) in
    (omega (arith, one, low, below.0), omega (arith, end, high, below.1))

-- the node of a slot is there
pub in_round : (slot k node n : ℕ) → n ≤ first k node → slot < n → (at : ℕ) → IsBelow slot k at → at < node
in_round slot k node n covers lt at below =
    elim (cases_lt at node) as (λ _. at < node) [
      | inl lt ↦ lt
      | inr ge ↦ absurd (let up = first-mono k node at ge in omega (arith, up, below.0, covers, lt))
    ]

-- what is read in range, whatever is read out of it
pub read_round : (rounds : List (List (Option ℕ))) (k : ℕ) (r : List (Option ℕ)) → k < length rounds → r ≡ get_or rounds k r → r ≡ round_of rounds k
read_round rounds k r lt is = is ∙ either rounds k r lt
  where
    either : (rounds : List (List (Option ℕ))) (k : ℕ) (r : List (Option ℕ)) → k < length rounds → get_or rounds k r ≡ get_or rounds k []
    either [] k r lt = absurd (omega arith)
    either (x ∷ rounds) zero r lt = refl
    either (x ∷ rounds) (suc k) r lt = either rounds k r (omega arith)

pub read_node : (rounds : List (List (Option ℕ))) (k i j : ℕ) (r : List (Option ℕ)) (a : Option ℕ) → k < length rounds → i ≡ j → r ≡ get_or rounds k r → a ≡ get_or r i None → a ≡ winner_of rounds k j
read_node rounds k i j r a lt same is read = read ∙ ap (λ n. get_or r n None) same ∙ ap (λ (round : List (Option ℕ)). get_or round j None) (read_round rounds k r lt is)

-- ---- a winner that is put down

abbrev pub put : List (List (Option ℕ)) → ℕ → ℕ → Option ℕ → List (List (Option ℕ))
put rounds k node winner = set rounds k (set (round_of rounds k) node winner)

module _ (rounds : List (List (Option ℕ))) (k : ℕ) (lt : k < length rounds) (node : ℕ) (winner : Option ℕ) where
  put_round : round_of (put rounds k node winner) k ≡ set (round_of rounds k) node winner
  put_round = get_or-set_same rounds k (set (round_of rounds k) node winner) [] lt

  put_other : (j : ℕ) → j ≢ k → round_of (put rounds k node winner) j ≡ round_of rounds j
  put_other j ne = get_or-set_other rounds k j (set (round_of rounds k) node winner) [] ne

  put-length : (j : ℕ) → length (round_of (put rounds k node winner) j) ≡ length (round_of rounds j)
  put-length j =
      elim (cases_eq j k) as (λ _. length (round_of (put rounds k node winner) j) ≡ length (round_of rounds j)) [
        | inl same ↦ subst (λ i. length (round_of (put rounds k node winner) i) ≡ length (round_of rounds i)) (sym same) (ap length put_round ∙ length-set (round_of rounds k) node winner)
        | inr ne ↦ ap length (put_other j ne)
      ]

  pub put-count : length (put rounds k node winner) ≡ length rounds
  put-count = length-set rounds k (set (round_of rounds k) node winner)

  pub put-shape : (n : ℕ) → IsShaped n rounds → IsShaped n (put rounds k node winner)
  put-shape n shape = record {
    covers = λ j within. subst (λ l. n ≤ first j l) (sym (put-length j)) (shape.covers j (omega (arith, put-count, within)));
    few = λ j within. subst (λ l. first j l ≤ n + width j) (sym (put-length j)) (shape.few j (omega (arith, put-count, within)));
    some = λ some. (let there = shape.some some in omega (arith, put-count, there));
    high = λ j last. shape.high j (omega (arith, put-count, last));
    low = λ j last. shape.low j (omega (arith, put-count, last));
  }

module _ {X : Type 0} (number : X → ℕ) (slots : List (Option X)) where
  -- each node of a round that is right has the best, also one that isn't there
  pub child : (rounds : List (List (Option ℕ))) (k : ℕ) → IsShaped (length slots) rounds → k < length rounds →
      ((node : ℕ) → node < length (round_of rounds k) → IsBest number slots (first k node) (first k (suc node)) (winner_of rounds k node)) →
      (node : ℕ) → IsBest number slots (first k node) (first k (suc node)) (winner_of rounds k node)
  child rounds k shape within best node =
      elim (cases_lt node (length (round_of rounds k))) as (λ _. IsBest number slots (first k node) (first k (suc node)) (winner_of rounds k node)) [
        | inl lt ↦ best node lt
        | inr ge ↦
            let covers = shape.covers k within in
            let up = first-mono k (length (round_of rounds k)) node ge in
            subst (IsBest number slots (first k node) (first k (suc node))) (sym (get_or_past (round_of rounds k) node None ge))
            (best-beyond number slots (first k node) (first k (suc node)) (omega (arith, covers, up)))
      ]

  -- the winner of a match between two nodes that are right is right
  pub matched : (k half : ℕ) (a b w : Option ℕ) → IsBest number slots (first k (half + half)) (first k (suc (half + half))) a →
      IsBest number slots (first k (suc (half + half))) (first k (suc (suc (half + half)))) b → IsPick number slots a b w → IsBest number slots (first (suc k) half) (first (suc k) (suc half)) w
  matched k half a b w left right pick =
      let twice : suc half + suc half ≡ suc (suc (half + half)) = omega arith in
      let from : first k (half + half) ≡ first (suc k) half = sym (first-halves k half) in
      let to : first k (suc (suc (half + half))) ≡ first (suc k) (suc half) = sym (first-halves k (suc half) ∙ ap (first k) twice) in
      subst (λ i. IsBest number slots i (first (suc k) (suc half)) w) from
      (subst (λ i. IsBest number slots (first k (half + half)) i w) to
      (joined number slots (first k (half + half)) (first k (suc (half + half))) (first k (suc (suc (half + half)))) a b w
      (first-mono k (half + half) (suc (half + half)) (omega arith)) (first-mono k (suc (half + half)) (suc (suc (half + half))) (omega arith)) left right pick))

  module _ (rounds : List (List (Option ℕ))) (slot k : ℕ) (but : IsTournamentBut number slots rounds slot k) (within : k < length rounds) where
    -- one more round is right
    pub next_round : (node : ℕ) (winner : Option ℕ) → node < length (round_of rounds k) → IsBelow slot k node → IsBest number slots (first k node) (first k (suc node)) winner →
        IsTournamentBut number slots (put rounds k node winner) slot (suc k)
    next_round node winner lt below right = record {
      shape = put-shape rounds k within node winner (length slots) but.shape;
      best = λ j other there in_round where_is.
          elim (cases_eq j k) as (λ _. IsBest number slots (first j other) (first j (suc other)) (winner_of (put rounds k node winner) j other)) [
            | inl same ↦ subst (λ i. IsBest number slots (first i other) (first i (suc other)) (winner_of (put rounds k node winner) i other)) (sym same)
                (same_round other (subst (λ i. other < length (round_of (put rounds k node winner) i)) same in_round))
            | inr ne ↦ other_round j other ne there in_round where_is
          ];
    }
      where
        same_round : (other : ℕ) → other < length (round_of (put rounds k node winner) k) → IsBest number slots (first k other) (first k (suc other)) (winner_of (put rounds k node winner) k other)
        same_round other in_round =
            elim (cases_eq other node) as (λ _. IsBest number slots (first k other) (first k (suc other)) (winner_of (put rounds k node winner) k other)) [
              | inl same ↦
                  subst (λ i. IsBest number slots (first k i) (first k (suc i)) (winner_of (put rounds k node winner) k i)) (sym same)
                  (subst (IsBest number slots (first k node) (first k (suc node))) (sym (ap (λ r. get_or r node None) (put_round rounds k within node winner) ∙ get_or-set_same (round_of rounds k) node winner None lt)) right)
              | inr ne ↦
                  subst (IsBest number slots (first k other) (first k (suc other)))
                  (sym (ap (λ r. get_or r other None) (put_round rounds k within node winner) ∙ get_or-set_other (round_of rounds k) node other winner None ne))
                  (but.best k other within (let same = put-length rounds k within node winner k in omega (arith, same, in_round)) (inr (other_node slot k node other below ne)))
            ]

        before : (j other : ℕ) → j ≢ k → (j < suc k) ⊎ IsElsewhere slot j other → (j < k) ⊎ IsElsewhere slot j other
        before j other ne (inl lt) = inl (let ne : j ≢ k = ne in omega arith)
        before j other ne (inr out) = inr out

        other_round : (j other : ℕ) → j ≢ k → j < length (put rounds k node winner) → other < length (round_of (put rounds k node winner) j) → (j < suc k) ⊎ IsElsewhere slot j other →
            IsBest number slots (first j other) (first j (suc other)) (winner_of (put rounds k node winner) j other)
        other_round j other ne there in_round where_is =
            subst (IsBest number slots (first j other) (first j (suc other))) (sym (ap (λ r. get_or r other None) (put_other rounds k within node winner j ne)))
            (but.best j other (let same = put-count rounds k within node winner in omega (arith, same, there)) (let same = put-length rounds k within node winner j in omega (arith, same, in_round)) (before j other ne where_is))

  module _ (rounds : List (List (Option ℕ))) (slot k : ℕ) (but : IsTournamentBut number slots rounds slot (suc k)) (within : suc k < length rounds) where
    lower : (node : ℕ) → IsBest number slots (first k node) (first k (suc node)) (winner_of rounds k node)
    lower = child rounds k but.shape (omega arith) (λ node lt. but.best k node (omega arith) lt (inl (omega arith)))

    pub lower-held : (node : ℕ) → IsHeld slots (winner_of rounds k node)
    lower-held node = best-held number slots (first k node) (first k (suc node)) (winner_of rounds k node) (lower node)

    module _ (node half : ℕ) (lo : half + half ≤ node) (hi : node ≤ suc (half + half)) (below : IsBelow slot k node) (held : slot < length slots) where
      pub half-there : half < length (round_of rounds (suc k))
      half-there = in_round slot (suc k) (length (round_of rounds (suc k))) (length slots) (but.shape.covers (suc k) within) held half (climbed slot k node half lo hi below)

      -- the match over a node is played again
      pub replayed : (a b w : Option ℕ) → a ≡ winner_of rounds k (half + half) → b ≡ winner_of rounds k (suc (half + half)) → IsPick number slots a b w →
          IsTournamentBut number slots (put rounds (suc k) half w) slot (suc (suc k))
      replayed a b w a_is b_is pick =
          next_round rounds slot (suc k) but within half w half-there (climbed slot k node half lo hi below)
          (matched k half (winner_of rounds k (half + half)) (winner_of rounds k (suc (half + half))) w (lower (half + half)) (lower (suc (half + half)))
          (subst (λ i. IsPick number slots i (winner_of rounds k (suc (half + half))) w) a_is (subst (λ i. IsPick number slots a i w) b_is pick)))

  -- where all rounds are right, it is a tournament; and where a slot changes, all but its own nodes are right
  pub all_right : (rounds : List (List (Option ℕ))) (slot k : ℕ) → length rounds ≤ k → IsTournamentBut number slots rounds slot k → IsTournament number slots rounds
  all_right rounds slot k le but = record { shape = but.shape; best = λ j node there in_round. but.best j node there in_round (inl (omega arith)) }

  pub but_slot : (rounds : List (List (Option ℕ))) (slot : ℕ) (v : Option X) → IsTournament number slots rounds → IsTournamentBut number (set slots slot v) rounds slot 0
  but_slot rounds slot v right = record {
    shape = subst (λ n. IsShaped n rounds) (sym (length-set slots slot v)) right.shape;
    best = λ j node there in_round where_is. best-elsewhere number slots slot v (first j node) (first j (suc node)) (winner_of rounds j node) (out j node where_is) (right.best j node there in_round);
  }
    where
      out : (j node : ℕ) → (j < 0) ⊎ IsElsewhere slot j node → IsElsewhere slot j node
      out j node (inl lt) = absurd (omega (arith, lt))
      out j node (inr is) = is

-- ---- a slot that changes

module _ {X : Type 0} (number : X → ℕ) (slots : List (Option X)) where
  pub round-there : (rounds : List (List (Option ℕ))) (slot : ℕ) → IsShaped (length slots) rounds → slot < length slots → 0 < length rounds
  round-there rounds slot shape lt = shape.some (omega arith)

  pub leaf-there : (rounds : List (List (Option ℕ))) (slot : ℕ) → IsShaped (length slots) rounds → slot < length slots → slot < length (round_of rounds 0)
  leaf-there rounds slot shape lt =
      let covers = shape.covers 0 (shape.some (omega arith)) in
      omega (arith, covers, first-zero (length (round_of rounds 0)), lt)

  module _ (rounds : List (List (Option ℕ))) (slot : ℕ) (right : IsTournament number slots rounds) (lt : slot < length slots) where
    leaf-below : IsBelow slot 0 slot
    leaf-below = let at = first-zero slot in (omega (arith, at), omega (arith, at))

    leaf-set : (v : Option X) (winner : Option ℕ) → IsBest number (set slots slot v) slot (suc slot) winner → IsTournamentBut number (set slots slot v) (put rounds 0 slot winner) slot 1
    leaf-set v winner best =
        let same : suc slot ≡ 1 + first 0 slot = (let at = first-zero slot in omega (arith, at)) in
        let right_there : IsBest number (set slots slot v) (first 0 slot) (first 0 (suc slot)) winner =
        subst (λ i. IsBest number (set slots slot v) i (1 + first 0 slot) winner) (sym (first-zero slot)) (subst (λ i. IsBest number (set slots slot v) slot i winner) same best) in
        next_round number (set slots slot v) rounds slot 0 (but_slot number slots rounds slot v right) (right.shape.some (omega arith)) slot winner (leaf-there rounds slot right.shape lt) leaf-below right_there

    pub leaf-held : (v : X) → IsTournamentBut number (set slots slot (Some v)) (put rounds 0 slot (Some slot)) slot 1
    leaf-held v = leaf-set (Some v) (Some slot) (best-alone number (set slots slot (Some v)) slot v (get_or-set_same slots slot (Some v) None lt))

    pub leaf-emptied : IsTournamentBut number (set slots slot None) (put rounds 0 slot None) slot 1
    leaf-emptied = leaf-set None None (best-empty number (set slots slot None) slot (get_or-set_same slots slot None None lt))

-- ---- steps

width-pow : (k : ℕ) → width k ≡ 2 ^ k
width-pow zero = refl
width-pow (suc k) = let rest = width-pow k in (let twice : width (suc k) ≡ 2 ^ k * 2 = omega (arith, rest) in twice) ∙ sym (pow-suc 2 k)

-- a step for each round but one is within the bound
pub few_steps : (n old new : ℕ) (rounds : List (List (Option ℕ))) → IsShaped n rounds → 0 < n → new ≤ old + (length rounds - 1) → 2 ^ (new - old) ≤ 2 * n
few_steps n old new rounds shape some le = by (length rounds) refl
  where
    by : (count : ℕ) → count ≡ length rounds → 2 ^ (new - old) ≤ 2 * n
    by zero is = absurd (let there = shape.some some in omega (arith, there, is))
    by (suc zero) is = let none : new - old ≡ 0 = omega (arith, le, is) in subst (λ k. 2 ^ k ≤ 2 * n) (sym none) (omega arith)
    by (suc (suc k)) is =
        let low = shape.low k is in
        let up : 2 ^ (new - old) ≤ 2 ^ (suc k) = pow_mono (let le : new ≤ old + (length rounds - 1) = le in omega (arith, le, is)) in
        omega (arith, up, low, width-pow (suc k))
