-- Tests on numbers, ids and lists.
use Rattle.std.proofs.Common.{◌≡◌, ℕ, zero, suc, ◌+◌, ◌<◌, ◌≤◌, nat_le, nat_lt, ◌==◌, Bool, true, false, ◌&&◌, ◌||◌, List, [], ◌∷◌, find, Option, Some, None, refl, sym, ◌∙◌, ap, arith, IfSome, inl, inr}
use Rattle.std.specs.List.{list_any, range_with_len}
use Rattle.std.proofs.lemmas.Bool.{leb-true, le-leb, ltb-true, lt-ltb, eqb-true, eq-eqb, and_parts, and_from, or_cases, false_from_ne_true, cases_lt}
use Rattle.fluid_outbox.specs.Kept.{is_in_turn}

-- two tests that hold together are one
pub same_test : (a b : Bool) → (a ≡ true → b ≡ true) → (b ≡ true → a ≡ true) → a ≡ b
same_test true true there back = refl
same_test true false there back = sym (there refl)
same_test false true there back = back refl
same_test false false there back = refl

pub no_test : (a : Bool) → a ≡ true → a ≡ false → ⊥
no_test a so not_so = let wrong : true ≡ false = sym so ∙ not_so in cc

-- ---- edits in turn

pub record InTurn (first acknowledged sent number edit : ℕ) : Type 0 where
  pub from_one : 1 ≤ number
  pub was_sent : number ≤ sent
  pub at : edit + acknowledged + 1 ≡ first + number

pub in_turn-true : (first acknowledged sent number edit : ℕ) → is_in_turn first acknowledged sent number edit ≡ true → InTurn first acknowledged sent number edit
in_turn-true first acknowledged sent number edit is =
    let parts = and_parts (nat_le 1 number) _ is in
    let rest = and_parts (nat_le number sent) _ parts.1 in
    record { from_one = leb-true 1 number parts.0; was_sent = leb-true number sent rest.0; at = eqb-true (edit + acknowledged + 1) (first + number) rest.1 }

pub true-in_turn : (first acknowledged sent number edit : ℕ) → InTurn first acknowledged sent number edit → is_in_turn first acknowledged sent number edit ≡ true
true-in_turn first acknowledged sent number edit is =
    and_from (nat_le 1 number) _ (le-leb 1 number is.from_one)
    (and_from (nat_le number sent) _ (le-leb number sent is.was_sent) (eq-eqb (edit + acknowledged + 1) (first + number) is.at))

-- none where none was sent
pub none_in_turn : (first acknowledged number edit : ℕ) → is_in_turn first acknowledged 0 number edit ≡ false
none_in_turn first acknowledged number edit =
    false_from_ne_true _ (λ is. let turn = in_turn-true first acknowledged 0 number edit is in omega (arith, turn.from_one, turn.was_sent))

-- one more, behind the others
pub one_more_in_turn : (first acknowledged sent number edit at : ℕ) → at + acknowledged ≡ first + sent → acknowledged ≤ sent →
    (((sent + 1 == number) && (at == edit)) || is_in_turn first acknowledged sent number edit) ≡ is_in_turn first acknowledged (sent + 1) number edit
one_more_in_turn first acknowledged sent number edit at place ordered = same_test _ _ there back
  where
    there : (((sent + 1 == number) && (at == edit)) || is_in_turn first acknowledged sent number edit) ≡ true → is_in_turn first acknowledged (sent + 1) number edit ≡ true
    there is = elim (or_cases ((sent + 1 == number) && (at == edit)) _ is) [
      | inl new ↦
          let parts = and_parts (sent + 1 == number) _ new in
          let numbers : sent + 1 ≡ number = eqb-true (sent + 1) number parts.0 in
          let edits : at ≡ edit = eqb-true at edit parts.1 in
          true-in_turn first acknowledged (sent + 1) number edit (record { from_one = omega arith; was_sent = omega arith; at = omega arith })
      | inr old ↦
          let turn = in_turn-true first acknowledged sent number edit old in
          true-in_turn first acknowledged (sent + 1) number edit (record { from_one = turn.from_one; was_sent = omega (arith, turn.was_sent); at = turn.at })
    ]

    back_at : (is_last : Bool) → (sent + 1 == number) ≡ is_last → InTurn first acknowledged (sent + 1) number edit →
        (((sent + 1 == number) && (at == edit)) || is_in_turn first acknowledged sent number edit) ≡ true
    back_at true last turn =
        let numbers : sent + 1 ≡ number = eqb-true (sent + 1) number last in
        let edits : (at == edit) ≡ true = eq-eqb at edit (omega (arith, turn.at)) in
        rw (last, edits) refl
    back_at false last turn =
        let other : sent + 1 ≡ number → ⊥ = λ is. no_test (sent + 1 == number) (eq-eqb (sent + 1) number is) last in
        let within : number ≤ sent = elim (cases_lt sent number) [
          | inl above ↦ absurd (other (omega (arith, above, turn.was_sent)))
          | inr below ↦ below
        ] in
        rw last (true-in_turn first acknowledged sent number edit (record { from_one = turn.from_one; was_sent = within; at = turn.at }))

    back : is_in_turn first acknowledged (sent + 1) number edit ≡ true → (((sent + 1 == number) && (at == edit)) || is_in_turn first acknowledged sent number edit) ≡ true
    back is = back_at (sent + 1 == number) refl (in_turn-true first acknowledged (sent + 1) number edit is)

-- one acknowledged: the others stand as before
pub acknowledged_in_turn : (first acknowledged sent number edit : ℕ) →
    is_in_turn first acknowledged sent number edit ≡ is_in_turn (first + 1) (acknowledged + 1) sent number edit
acknowledged_in_turn first acknowledged sent number edit =
    same_test _ _
    (λ is.
    let turn = in_turn-true first acknowledged sent number edit is in
    true-in_turn (first + 1) (acknowledged + 1) sent number edit (record { from_one = turn.from_one; was_sent = turn.was_sent; at = omega (arith, turn.at) }))
    (λ is.
    let turn = in_turn-true (first + 1) (acknowledged + 1) sent number edit is in
    true-in_turn first acknowledged sent number edit (record { from_one = turn.from_one; was_sent = turn.was_sent; at = omega (arith, turn.at) }))

-- the next one to be acknowledged
pub next_in_turn : (first acknowledged sent number : ℕ) →
    is_in_turn first acknowledged sent number first ≡ (nat_lt acknowledged sent && (number == acknowledged + 1))
next_in_turn first acknowledged sent number =
    same_test _ _
    (λ is.
    let turn = in_turn-true first acknowledged sent number first is in
    and_from (nat_lt acknowledged sent) _ (lt-ltb acknowledged sent (omega (arith, turn.at, turn.was_sent))) (eq-eqb number (acknowledged + 1) (omega (arith, turn.at))))
    (λ is.
    let parts = and_parts (nat_lt acknowledged sent) _ is in
    let below : acknowledged < sent = ltb-true acknowledged sent parts.0 in
    let number_is : number ≡ acknowledged + 1 = eqb-true number (acknowledged + 1) parts.1 in
    true-in_turn first acknowledged sent number first (record { from_one = omega arith; was_sent = omega arith; at = omega arith }))

-- ---- lists

pub none_any : {X : Type 0} (p : X → Bool) (xs : List X) → ((x : X) → p x ≡ false) → list_any p xs ≡ false
none_any p [] none = refl
none_any p (x ∷ xs) none = rw (none x) (none_any p xs none)

pub if_some_map : {X : Type 0} (P Q : X → Type 0) (o : Option X) → ((x : X) → P x → Q x) → IfSome o P → IfSome o Q
if_some_map P Q None f h = tt
if_some_map P Q (Some x) f h = f x h

-- the first number of a range that passes a test
pub find_from : (p : ℕ → Bool) (start count at : ℕ) → start ≤ at → at < start + count →
    ((n : ℕ) → start ≤ n → n < at → p n ≡ false) → p at ≡ true → find p (range_with_len start count) ≡ Some at
find_from p start zero at from within before is = absurd (omega (arith, from, within))
find_from p start (suc count) at from within before is = elim (cases_lt start at) [
  | inl later ↦
      rw (before start (omega arith) later)
      (find_from p (start + 1) count at (omega (arith, later)) (omega (arith, within)) (λ n above below. before n (omega (arith, above)) below) is)
  | inr here ↦
      let same : at ≡ start = omega (arith, from, here) in
      let so : p start ≡ true = ap p (sym same) ∙ is in
      rw so (ap Some (sym same))
]

pub find_none : (p : ℕ → Bool) (start count : ℕ) → ((n : ℕ) → start ≤ n → n < start + count → p n ≡ false) → find p (range_with_len start count) ≡ None
find_none p start zero none = refl
find_none p start (suc count) none =
    rw (none start (omega arith) (omega arith))
    (find_none p (start + 1) count (λ n above below. none n (omega (arith, above)) (omega (arith, below))))
