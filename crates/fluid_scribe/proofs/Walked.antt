-- On the way from a base to a later number.
use Rattle.std.proofs.Common.{◌≡◌, ℕ, zero, suc, ◌+◌, ◌-◌, ◌<◌, ◌≤◌, arith, Bool, true, false, ◌==◌, nat_lt, nat_le, List, [], ◌∷◌, ◌++◌, length, drop, append_assoc, append-nil, refl, sym, ap, ap₂, ◌∙◌}
use Rattle.std.specs.Prelude.{slice_index_or, Result, Ok, Err, OnErr}
use Rattle.fluid_json.specs.declared.memory.NoMemory.{NoMemory}
use Rattle.std.proofs.lemmas.Bool.{le-leb}
use Rattle.fluid_types.specs.declared.messages.Message.{Message}
use Rattle.fluid_types.specs.Quorum.{Quorum}
use Rattle.fluid_quorum.specs.After.{after}
use Rattle.fluid_quorum.specs.Noops.{advanced}
use Rattle.fluid_quorum.proofs.Advanced.{stays-later, advanced-at}
use Rattle.fluid_scribe.specs.State.{Minima, Reached, risen, reached, with_next, brought}
use Rattle.fluid_scribe.specs.Tails.{IsPast, IsReached, IsBrought}
use Rattle.fluid_scribe.specs.declared.tail.Place.{Place}

not_le : (a b : ℕ) → b < a → nat_le a b ≡ false
not_le a b lt = grind arith

-- one of a list, at the front of what is left
pub drop-at : {A : Type 0} (i : ℕ) (xs : List A) (x : A) → i < length xs → x ≡ slice_index_or xs i x → drop i xs ≡ x ∷ drop (i + 1) xs
drop-at i [] x lt is = absurd (omega (arith, lt))
drop-at zero (y ∷ xs) x lt is = ap (λ z. z ∷ xs) (sym is)
drop-at (suc i) (y ∷ xs) x lt is =
    let e : suc i + 1 ≡ suc (i + 1) = omega arith in
    rw e (drop-at i xs x (omega (arith, lt)) is)

pub drop-past : {A : Type 0} (i : ℕ) (xs : List A) → length xs ≤ i → drop i xs ≡ []
drop-past zero [] le = refl
drop-past zero (x ∷ xs) le = absurd (omega (arith, le))
drop-past (suc i) [] le = refl
drop-past (suc i) (x ∷ xs) le = drop-past i xs (omega (arith, le))

-- ---- changes of the minimum

abbrev reached-of : ℕ → Reached → Reached
reached-of number r = record { quorum = advanced r.quorum number r.quorum.minimum; minima = r.minima }

-- ---- a message

pub next-low : (q : Quorum) (m : Message) (last : ℕ) → last ≡ q.number → m.number ≤ last → with_next q m ≡ q
unfolding with_next
next-low q m last is le = rw (other m.number q.number last is le) refl
  where
    other : (a b n : ℕ) → n ≡ b → a ≤ n → (a == b + 1) ≡ false
    other a b n same h = grind arith

pub next-far : (q : Quorum) (m : Message) (last : ℕ) → last ≡ q.number → ((m.number - last ≡ 1) → ⊥) → with_next q m ≡ q
unfolding with_next
next-far q m last is far = rw (other m.number q.number last is far) refl
  where
    other : (a b n : ℕ) → n ≡ b → ((a - n ≡ 1) → ⊥) → (a == b + 1) ≡ false
    other a b n same h = grind arith

pub next-own : (q : Quorum) (m : Message) (last : ℕ) → last ≡ q.number → last < m.number → m.number - last ≡ 1 → with_next q m ≡ after q m
unfolding with_next
next-own q m last is lt one = rw (own m.number q.number last is lt one) refl
  where
    own : (a b n : ℕ) → n ≡ b → n < a → a - n ≡ 1 → (a == b + 1) ≡ true
    own a b n same lt one = grind arith

-- ---- a number that is reached stays reached

-- what is left behind a rise is left by any quorum
risen-left : (number : ℕ) (q p : Quorum) (cs : Minima) → risen number p (risen number q cs).minima ≡ record { quorum = p; minima = (risen number q cs).minima }
risen-left number q p [] = refl
risen-left number q p (c ∷ cs) = by (nat_le c.0 number) refl (risen-left number (advanced q c.0 c.1) p cs)
  where
    by : (b : Bool) → nat_le c.0 number ≡ b → risen number p (risen number (advanced q c.0 c.1) cs).minima ≡ record { quorum = p; minima = (risen number (advanced q c.0 c.1) cs).minima } →
        risen number p (risen number q (c ∷ cs)).minima ≡ record { quorum = p; minima = (risen number q (c ∷ cs)).minima }
    by true is rest = rw is rest
    by false is rest = rw (is, is) refl

advanced-number : (q : Quorum) (number : ℕ) (b : Bool) → nat_lt q.number number ≡ b → number ≤ (advanced q number q.minimum).number
advanced-number q number true lt = omega (arith, advanced-at q number q.minimum (less _ _ lt) (omega arith))
  where
    less : (a b : ℕ) → nat_lt a b ≡ true → a < b
    less a b h = grind arith
advanced-number q number false lt = let le = more _ _ lt in rw (stays-later q number q.minimum le).same le
  where
    more : (a b : ℕ) → nat_lt a b ≡ false → b ≤ a
    more a b h = grind arith

again : (q : Quorum) (number : ℕ) → advanced (advanced q number q.minimum) number (advanced q number q.minimum).minimum ≡ advanced q number q.minimum
again q number = (stays-later (advanced q number q.minimum) number (advanced q number q.minimum).minimum (advanced-number q number _ refl)).same

pub reached-again : (number : ℕ) (q : Quorum) (cs : Minima) → reached number (reached number q cs).quorum (reached number q cs).minima ≡ reached number q cs
reached-again number q cs =
    let r = risen number q cs in
    ap (reached-of number) (risen-left number q (advanced r.quorum number r.quorum.minimum) cs)
    ∙ ap (λ p. record { quorum = p; minima = r.minima }) (again r.quorum number)

pub take-way : (result : Result (Unit {0}) NoMemory) (number : ℕ) (q p r : Quorum) (cs ds : Minima) → OnErr result (r ≡ p) → p ≡ (reached number q cs).quorum → ds ≡ (reached number q cs).minima →
    OnErr result (reached number r ds ≡ reached number q cs)
take-way (Ok done) number q p r cs ds same quorum_is left_is = tt
take-way (Err refused) number q p r cs ds same quorum_is left_is = rw (same, quorum_is, left_is) (reached-again number q cs)

-- ---- messages

-- ---- copies

pub copied-on : {A : Type 0} (i from : ℕ) (copies more xs : List A) (x : A) → i < length xs → x ≡ slice_index_or xs i x → copies ++ drop i xs ≡ drop from xs → more ≡ copies ++ x ∷ [] →
    more ++ drop (i + 1) xs ≡ drop from xs
copied-on i from copies more xs x lt is so_far pushed =
    ap (λ l. l ++ drop (i + 1) xs) pushed ∙ append_assoc copies (x ∷ []) (drop (i + 1) xs) ∙ ap (λ l. copies ++ l) (sym (drop-at i xs x lt is)) ∙ so_far

pub copied-end : {A : Type 0} (i from : ℕ) (copies xs : List A) → length xs ≤ i → copies ++ drop i xs ≡ drop from xs → copies ≡ drop from xs
copied-end i from copies xs le so_far = sym (append-nil copies) ∙ ap (λ l. copies ++ l) (sym (drop-past i xs le)) ∙ so_far
