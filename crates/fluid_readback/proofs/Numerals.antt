-- A number that was read isn't longer than its text when it is printed.
use Rattle.std.proofs.Common.{◌≡◌, ℕ, zero, suc, ◌+◌, ◌-◌, ◌<◌, ◌≤◌, ◌^◌, ◌==◌, ◌&&◌, List, [], ◌∷◌, ◌++◌, length, take, drop, decimal, Bool, true, false, not, cond, nat_lt, nat_le, Some, None, refl, ap, sym, ◌∙◌, subst, arith, append-nil}
use Rattle.std.specs.Prelude.{⊤, slice_index}
use Rattle.std.specs.Char.{is_ascii_digit, digit_value}
use Rattle.std.specs.Fmt.{signed_decimal}
use Rattle.std.specs.List.{prefix_len}
use Rattle.std.specs.Str.Parse.{AllDigits, digits_value}
use Rattle.std.specs.Float.Numeral.{Parts, scan_numeral}
use Rattle.std.proofs.lemmas.Bool.{and_parts, ltb-true, leb-true}
use Rattle.std.proofs.lemmas.List.{length-take}
use Rattle.std.proofs.lemmas.Fmt.{length-decimal-le}
use Rattle.std.proofs.lemmas.Int.Digits.{digits_value-lt}
use Rattle.fast_float.specs.Text.{digits_of, minus, with_sign}
use Rattle.serde_json.specs.Data.{Num, unsigned, negative, float}
use Rattle.serde_json.specs.Read.{is_integer, float_of, number_from, number_of}
use Rattle.fluid_json.specs.Tree.{IsSigned}

-- the bytes of a number as it is printed
abbrev pub number_size : Num → ℕ
number_size (unsigned n) = length (decimal n)
number_size (negative z) = length (signed_decimal z)
number_size (float x) = 0

abbrev pub IsNegative : Num → Type 0
IsNegative (unsigned n) = ⊤
IsNegative (negative z) = IsSigned z
IsNegative (float x) = ⊤

pub record IsNumber (most : ℕ) (n : Num) : Type 0 where
  pub short : number_size n ≤ most
  pub signed : IsNegative n

-- ---- the digits of an integer

digit_small : (c : ℕ) → is_ascii_digit c ≡ true → digit_value c < 10
digit_small c h = grind (arith)

prefix_digits_on : (x : ℕ) (xs : List ℕ) → AllDigits 10 (take (prefix_len is_ascii_digit xs) xs) → (b : Bool) → is_ascii_digit x ≡ b
    → AllDigits 10 (take (cond b (1 + prefix_len is_ascii_digit xs) 0) (x ∷ xs))
prefix_digits_on x xs more true h =
    let one : 1 + prefix_len is_ascii_digit xs ≡ suc (prefix_len is_ascii_digit xs) = omega arith in
    rw one (digit_small x h, more)
prefix_digits_on x xs more false h = tt

prefix_digits : (xs : List ℕ) → AllDigits 10 (take (prefix_len is_ascii_digit xs) xs)
prefix_digits [] = tt
prefix_digits (x ∷ xs) = prefix_digits_on x xs (prefix_digits xs) (is_ascii_digit x) refl

-- the whole part of what is scanned
record IsScanned (s : List ℕ) (p : Parts) : Type 0 where
  pub digits : AllDigits 10 p.whole
  pub short : length p.whole ≤ length s
  pub no_point : p.point ≡ false → p.fraction ≡ []

scanned : (s : List ℕ) → IsScanned s (scan_numeral s)
unfolding scan_numeral
scanned s =
    let place : 0 + prefix_len is_ascii_digit s - 0 ≡ prefix_len is_ascii_digit s = omega arith in
    record {
      digits = rw place (prefix_digits s);
      short = rw place (omega (arith, length-take (prefix_len is_ascii_digit s) s));
      no_point = λ h. rw h refl;
    }

record IsInteger (s : List ℕ) (p : Parts) : Type 0 where
  pub some : 0 < length p.whole
  pub below : digits_of p < 10 ^ length p.whole
  pub short : length p.whole ≤ length s

integer : (s : List ℕ) (p : Parts) → IsScanned s p → is_integer p ≡ true → IsInteger s p
integer s p h i =
    let parts = and_parts (nat_lt 0 (length p.whole) && not p.point) (length p.exponent == 0) i in
    let first = and_parts (nat_lt 0 (length p.whole)) (not p.point) parts.0 in
    let whole : p.whole ++ p.fraction ≡ p.whole = ap (λ f. p.whole ++ f) (h.no_point (of p.point first.1)) ∙ append-nil p.whole in
    record {
      some = ltb-true 0 (length p.whole) first.0;
      below = subst (λ w. digits_value 10 w < 10 ^ length p.whole) (sym whole) (digits_value-lt 10 p.whole h.digits);
      short = h.short;
    }
  where
    of : (b : Bool) → not b ≡ true → b ≡ false
    of true h = cc
    of false h = refl

-- ---- numbers

float_is : (b : Bool) (x : _) (n : Num) (most : ℕ) → cond b (Some (float x)) None ≡ Some n → IsNumber most n
float_is true x n most h = let same : float x ≡ n = cc in subst (IsNumber most) same (record { short = omega arith; signed = tt })
float_is false x n most h = cc

decimal_short : (n k : ℕ) → 0 < k → n < 10 ^ k → n < 2 ^ 64 → length (decimal n) ≤ k
decimal_short n k some below fits = length-decimal-le k n some below fits

positive : (s : List ℕ) (p : Parts) (n : Num) → IsScanned s p → number_from false p ≡ Some n → IsNumber (length s) n
positive s p n h e = of (is_integer p) (nat_lt (digits_of p) (2 ^ 64)) refl refl e
  where
    of : (a b : Bool) → is_integer p ≡ a → nat_lt (digits_of p) (2 ^ 64) ≡ b → cond (a && b) (Some (unsigned (digits_of p))) (float_of false p) ≡ Some n → IsNumber (length s) n
    of true true i f e =
        let same : unsigned (digits_of p) ≡ n = cc in
        let k = integer s p h i in
        let short : length (decimal (digits_of p)) ≤ length s = omega (arith, k.short, decimal_short (digits_of p) (length p.whole) k.some k.below (ltb-true (digits_of p) (2 ^ 64) f)) in
        subst (IsNumber (length s)) same (record { short = short; signed = tt })
    of true false i f e = float_is _ _ n (length s) e
    of false b i f e = float_is _ _ n (length s) e

-- a number below zero, by its digits
below_zero : (m : ℕ) (n : ℕ) → 0 < n → n ≤ 2 ^ 63 → length (decimal n) ≤ m → IsNumber (1 + m) (negative (with_sign true n))
below_zero m zero some most short = absurd (omega arith)
below_zero m (suc n) some most short = record { short = omega (arith, short); signed = omega arith }

negative_is : (s : List ℕ) (p : Parts) (n : Num) → IsScanned s p → number_from true p ≡ Some n → IsNumber (1 + length s) n
negative_is s p n h e = of (is_integer p) (nat_lt 0 (digits_of p)) (nat_le (digits_of p) (2 ^ 63)) refl refl refl e
  where
    of : (a b c : Bool) → is_integer p ≡ a → nat_lt 0 (digits_of p) ≡ b → nat_le (digits_of p) (2 ^ 63) ≡ c
        → cond (a && b && c) (Some (negative (with_sign true (digits_of p)))) (float_of true p) ≡ Some n → IsNumber (1 + length s) n
    of true true true i f g e =
        let same : negative (with_sign true (digits_of p)) ≡ n = cc in
        let k = integer s p h i in
        let most = leb-true (digits_of p) (2 ^ 63) g in
        let short : length (decimal (digits_of p)) ≤ length s = omega (arith, k.short, decimal_short (digits_of p) (length p.whole) k.some k.below (omega arith)) in
        subst (IsNumber (1 + length s)) same (below_zero (length s) (digits_of p) (ltb-true 0 (digits_of p) f) most short)
    of true true false i f g e = float_is _ _ n (1 + length s) e
    of true false c i f g e = float_is _ _ n (1 + length s) e
    of false b c i f g e = float_is _ _ n (1 + length s) e

pub number_short : (s : List ℕ) (n : Num) → number_of s ≡ Some n → IsNumber (length s) n
unfolding number_of
number_short s n e = of s (slice_index s 0 == minus) refl e
  where
    of : (s : List ℕ) (b : Bool) → (slice_index s 0 == minus) ≡ b → cond b (number_from true (scan_numeral (drop 1 s))) (number_from false (scan_numeral s)) ≡ Some n → IsNumber (length s) n
    of s false h e = positive s (scan_numeral s) n (scanned s) e
    of [] true h e = cc
    of (x ∷ xs) true h e =
        let is = negative_is xs (scan_numeral xs) n (scanned xs) e in
        record { short = omega (arith, is.short); signed = is.signed }
