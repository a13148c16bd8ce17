-- The words of a text, numbers and literals: a word that a lexer reads stands in the text byte for byte.
use Rattle.std.proofs.Common.{◌≡◌, ℕ, suc, ◌+◌, ◌-◌, ◌≤◌, ◌==◌, ◌&&◌, ◌||◌, List, [], ◌∷◌, length, take, drop, Bool, true, false, cond, nat_eq, Option, Some, None, option_and_then, refl, sym, subst, arith}
use Rattle.std.specs.Char.{is_ascii_digit}
use Rattle.std.specs.List.{prefix_len}
use Rattle.std.specs.Cmp.Lexicographic.{pointwise}
use Rattle.std.proofs.lemmas.List.{length-take}
use Rattle.std.proofs.lemmas.Bool.{and_parts, eqb-true, ne_eqb}
use Rattle.json.specs.Token.{Token, begin_object, end_object, begin_array, end_array, key, string, number, boolean, null, bad}
use Rattle.json.specs.Print.{quoted}
use Rattle.json.specs.Lex.{Class, quote, backslash, operator, space, other, class}
use Rattle.json.specs.Word.{is_operator, is_space, head, ends_word, after_digits, after_minus, after_sign, after_whole, after_fraction, after_exponent, after_number, number_before, literal, word}
use Rattle.json.specs.Ascii as ascii

-- the bytes of a token as it is printed
abbrev pub size : Token → ℕ
size begin_object = 1
size end_object = 1
size begin_array = 1
size end_array = 1
size (key s) = length (quoted s)
size (string s) = length (quoted s)
size (number s) = length s
size (boolean true) = 4
size (boolean false) = 5
size null = 4
size bad = 0

abbrev pub is_bad : Token → Bool
is_bad begin_object = false
is_bad end_object = false
is_bad begin_array = false
is_bad end_array = false
is_bad (key s) = false
is_bad (string s) = false
is_bad (number s) = false
is_bad (boolean b) = false
is_bad null = false
is_bad bad = true

-- ---- the bytes of a word at the front of a text

abbrev run_at : Class → ℕ → ℕ
run_at quote n = 0
run_at backslash n = 0
run_at operator n = 0
run_at space n = 0
run_at other n = suc n

-- how many bytes of words stand in front
abbrev pub run : List ℕ → ℕ
run [] = 0
run (x ∷ xs) = run_at (class x) (run xs)

abbrev pub clean_at : Class → Bool → Bool
clean_at quote b = false
clean_at backslash b = false
clean_at operator b = true
clean_at space b = true
clean_at other b = b

-- an operator, a blank or the end stands behind them
abbrev pub clean : List ℕ → Bool
clean [] = true
clean (x ∷ xs) = clean_at (class x) (clean xs)

-- what stands before `rest` in t are bytes of words
record Passed (t rest : List ℕ) : Type 0 where
  pub longer : length t + run rest ≤ run t + length rest
  pub cleaner : clean rest ≡ true → clean t ≡ true

passed_none : (t : List ℕ) → Passed t t
passed_none t = record { longer = omega arith; cleaner = λ h. h }

passed_both : (t u v : List ℕ) → Passed t u → Passed u v → Passed t v
passed_both t u v p q = record { longer = omega (arith, p.longer, q.longer); cleaner = λ h. p.cleaner (q.cleaner h) }

passed_one : (x : ℕ) (xs : List ℕ) → class x ≡ other → Passed (x ∷ xs) xs
passed_one x xs h = record { longer = rw h (omega arith); cleaner = λ k. rw h k }

-- the byte c, where it stands
passed_byte : (c : ℕ) (t : List ℕ) → class c ≡ other → (head t == c) ≡ true → (c ≡ 32 → ⊥) → Passed t (drop 1 t)
passed_byte c [] h e visible = absurd (visible (sym (eqb-true 32 c e)))
passed_byte c (x ∷ xs) h e visible = passed_one x xs (subst (λ y. class y ≡ other) (sym (eqb-true x c e)) h)

digit_class : (x : ℕ) → is_ascii_digit x ≡ true → class x ≡ other
digit_class x h = grind (arith)

digits_on : (x : ℕ) (xs : List ℕ) → Passed xs (drop (prefix_len is_ascii_digit xs) xs) → (b : Bool) → is_ascii_digit x ≡ b
    → Passed (x ∷ xs) (drop (cond b (1 + prefix_len is_ascii_digit xs) 0) (x ∷ xs))
digits_on x xs more true h = let step : 1 + prefix_len is_ascii_digit xs ≡ suc (prefix_len is_ascii_digit xs) = omega arith in rw step (passed_both (x ∷ xs) xs (drop (prefix_len is_ascii_digit xs) xs) (passed_one x xs (digit_class x h)) more)
digits_on x xs more false h = passed_none (x ∷ xs)

passed_digits : (t : List ℕ) → Passed t (drop (prefix_len is_ascii_digit t) t)
passed_digits [] = passed_none []
passed_digits (x ∷ xs) = digits_on x xs (passed_digits xs) (is_ascii_digit x) refl

some_of : {A : Type 0} (b : Bool) (a r : A) → cond b None (Some a) ≡ Some r → a ≡ r
some_of true a r h = cc
some_of false a r h = cc

then_some : {A B : Type 0} (f : A → Option B) (o : Option A) (b : B) → option_and_then f o ≡ Some b → (a : A) × (o ≡ Some a) × (f a ≡ Some b)
then_some f None b h = cc
then_some f (Some a) b h = (a, refl, h)

passed_after_digits : (t r : List ℕ) → after_digits t ≡ Some r → Passed t r
passed_after_digits t r h = subst (λ u. Passed t u) (some_of (prefix_len is_ascii_digit t == 0) _ r h) (passed_digits t)

passed_minus : (t : List ℕ) → Passed t (after_minus t)
passed_minus t = of (head t == 45) refl
  where
    of : (b : Bool) → (head t == 45) ≡ b → Passed t (cond b (drop 1 t) t)
    of true h = passed_byte 45 t refl h (λ e. omega arith)
    of false h = passed_none t

passed_sign : (t : List ℕ) → Passed t (after_sign t)
passed_sign t = of (head t == 45) (head t == 43) refl refl
  where
    of : (a b : Bool) → (head t == 45) ≡ a → (head t == 43) ≡ b → Passed t (cond (a || b) (drop 1 t) t)
    of true b h k = passed_byte 45 t refl h (λ e. omega arith)
    of false true h k = passed_byte 43 t refl k (λ e. omega arith)
    of false false h k = passed_none t

passed_whole : (t r : List ℕ) → after_whole t ≡ Some r → Passed t r
passed_whole t r h = of (head t == 48) refl h
  where
    of : (b : Bool) → (head t == 48) ≡ b → cond b (Some (drop 1 t)) (after_digits t) ≡ Some r → Passed t r
    of true e h = let same : drop 1 t ≡ r = cc in subst (λ u. Passed t u) same (passed_byte 48 t refl e (λ e. omega arith))
    of false e h = passed_after_digits t r h

passed_fraction : (t r : List ℕ) → after_fraction t ≡ Some r → Passed t r
passed_fraction t r h = of (head t == 46) refl h
  where
    of : (b : Bool) → (head t == 46) ≡ b → cond b (after_digits (drop 1 t)) (Some t) ≡ Some r → Passed t r
    of true e h = passed_both t (drop 1 t) r (passed_byte 46 t refl e (λ e. omega arith)) (passed_after_digits (drop 1 t) r h)
    of false e h = let same : t ≡ r = cc in subst (λ u. Passed t u) same (passed_none t)

passed_exponent : (t r : List ℕ) → after_exponent t ≡ Some r → Passed t r
passed_exponent t r h = of (head t == 101) (head t == 69) refl refl h
  where
    behind : Passed t (drop 1 t) → after_digits (after_sign (drop 1 t)) ≡ Some r → Passed t r
    behind p h = passed_both t (drop 1 t) r p (passed_both (drop 1 t) (after_sign (drop 1 t)) r (passed_sign (drop 1 t)) (passed_after_digits (after_sign (drop 1 t)) r h))

    of : (a b : Bool) → (head t == 101) ≡ a → (head t == 69) ≡ b → cond (a || b) (after_digits (after_sign (drop 1 t))) (Some t) ≡ Some r → Passed t r
    of true b e k h = behind (passed_byte 101 t refl e (λ e. omega arith)) h
    of false true e k h = behind (passed_byte 69 t refl k (λ e. omega arith)) h
    of false false e k h = let same : t ≡ r = cc in subst (λ u. Passed t u) same (passed_none t)

passed_number : (t r : List ℕ) → after_number t ≡ Some r → Passed t r
unfolding after_number
passed_number t r h =
    let last = then_some after_exponent _ r h in
    let middle = then_some after_fraction _ last.0 last.1 in
    let first = middle.1 in
    passed_both t (after_minus t) r (passed_minus t)
    (passed_both (after_minus t) middle.0 r (passed_whole (after_minus t) middle.0 first)
    (passed_both middle.0 last.0 r (passed_fraction middle.0 last.0 middle.2) (passed_exponent last.0 r last.2)))

-- ---- the word at the front of a text

-- what a word may be
abbrev pub IsWordToken : Token → Type 0
IsWordToken begin_object = ⊥
IsWordToken end_object = ⊥
IsWordToken begin_array = ⊥
IsWordToken end_array = ⊥
IsWordToken (key s) = ⊥
IsWordToken (string s) = ⊥
IsWordToken (number s) = Unit {0}
IsWordToken (boolean b) = Unit {0}
IsWordToken null = Unit {0}
IsWordToken bad = Unit {0}

pub record IsWord (t : List ℕ) (w : Token) : Type 0 where
  pub kind : IsWordToken w
  pub short : size w ≤ run t
  pub whole : is_bad w ≡ false → clean t ≡ true

bad_word : (t : List ℕ) → IsWord t bad
bad_word t = record { kind = tt; short = omega arith; whole = λ h. cc }

ending_class : (x : ℕ) → (is_operator x || is_space x) ≡ true → (x ≡ 34 → ⊥) × (x ≡ 92 → ⊥)
ending_class x h = (λ e. let k : (is_operator 34 || is_space 34) ≡ true = subst (λ y. (is_operator y || is_space y) ≡ true) e h in cc, λ e. let k : (is_operator 92 || is_space 92) ≡ true = subst (λ y. (is_operator y || is_space y) ≡ true) e h in cc)

ends_clean : (t : List ℕ) → ends_word t ≡ true → clean t ≡ true
ends_clean [] h = refl
ends_clean (x ∷ xs) h =
    let no = ending_class x h in
    rw (ne_eqb x 34 no.0, ne_eqb x 92 no.1) (of (is_operator x) (is_space x) refl refl h)
  where
    of : (a b : Bool) → is_operator x ≡ a → is_space x ≡ b → (a || b) ≡ true → clean_at (cond a operator (cond b space other)) (clean xs) ≡ true
    of true b e k h = refl
    of false true e k h = refl
    of false false e k h = cc

is_number : (t : List ℕ) (o : Option (List ℕ)) → after_number t ≡ o → IsWord t (number_before t o)
is_number t None e = bad_word t
is_number t (Some r) e = of (passed_number t r e) (ends_word r) refl
  where
    of : Passed t r → (b : Bool) → ends_word r ≡ b → IsWord t (cond b (number (take (length t - length r) t)) bad)
    of passed true h = record { kind = tt; short = omega (arith, passed.longer, length-take (length t - length r) t); whole = λ k. passed.cleaner (ends_clean r h) }
    of passed false h = bad_word t

-- the bytes of a literal
abbrev AreOther : List ℕ → Type 0
AreOther [] = Unit {0}
AreOther (x ∷ xs) = (class x ≡ other) × AreOther xs

record Begins (name t : List ℕ) : Type 0 where
  pub long : length name + length (drop (length name) t) ≡ length t
  pub passed : Passed t (drop (length name) t)

begins : (name t : List ℕ) → AreOther name → pointwise nat_eq name (take (length name) t) ≡ true → Begins name t
begins [] t o h = record { long = omega arith; passed = passed_none t }
begins (n ∷ name) [] o h = cc
begins (n ∷ name) (x ∷ xs) o h =
    let parts = and_parts (nat_eq n x) (pointwise nat_eq name (take (length name) xs)) h in
    let same : n ≡ x = eqb-true n x parts.0 in
    let more = begins name xs o.1 parts.1 in
    record { long = omega (arith, more.long); passed = passed_both (x ∷ xs) xs _ (passed_one x xs (subst (λ y. class y ≡ other) same o.0)) more.passed }

is_literal : (name : List ℕ) (w : Token) (t : List ℕ) → AreOther name → size w ≡ length name → IsWordToken w → IsWord t (literal name w t)
is_literal name w t o same good = of (pointwise nat_eq name (take (length name) t)) (ends_word (drop (length name) t)) refl refl
  where
    of : (a b : Bool) → pointwise nat_eq name (take (length name) t) ≡ a → ends_word (drop (length name) t) ≡ b → IsWord t (cond (a && b) w bad)
    of true true e k =
        let b = begins name t o e in
        record { kind = good; short = omega (arith, same, b.long, b.passed.longer); whole = λ g. b.passed.cleaner (ends_clean (drop (length name) t) k) }
    of true false e k = bad_word t
    of false b e k = bad_word t

pub is_word : (t : List ℕ) → IsWord t (word t)
unfolding word
is_word t = of (head t == 116) (head t == 102) (head t == 110)
  where
    of : (a b c : Bool) → IsWord t (cond a (literal ascii.true_text (boolean true) t) (cond b (literal ascii.false_text (boolean false) t) (cond c (literal ascii.null_text null t) (number_before t (after_number t)))))
    of true b c = is_literal ascii.true_text (boolean true) t (refl, (refl, (refl, (refl, tt)))) refl tt
    of false true c = is_literal ascii.false_text (boolean false) t (refl, (refl, (refl, (refl, (refl, tt))))) refl tt
    of false false true = is_literal ascii.null_text null t (refl, (refl, (refl, (refl, tt)))) refl tt
    of false false false = is_number t (after_number t) refl
