-- What `parse` answers for decimal digits.
use Rattle.std.proofs.Common.{◌≡◌, ℕ, ◌<◌, ◌^◌, Bool, true, false, cond, ◌&&◌, List, length, Some, None, Result, Ok, Err, refl, sym, ◌∙◌, ap, lt-ltb, ltb-true, arith}
use Rattle.std.specs.Prelude.{◌||◌, ◌==◌, nat_lt, not, slice_index}
use Rattle.std.specs.List.{list_all}
use Rattle.std.specs.Result.{result_ok}
use Rattle.std.specs.Str.Parse.{IsNumeral, ParsesUnsigned, digits_value, without_leading_plus}
use Rattle.std.proofs.lemmas.Str.Parse.{IsDigitsTest, IsNumeralModel, numerals_by_value, not_in_digits, without_leading_plus_none}
use Rattle.std.proofs.lemmas.Bool.Decides.{nat_tests}
use Rattle.fluid_words.specs.Numbers.{is_digit, is_decimal, number_in}

both : (a b : Bool) → (a && b) ≡ true → (a ≡ true) × (b ≡ true)
both true b h = (refl, h)
both false b h = cc

tells : IsDigitsTest (λ ds. list_all is_digit ds ≡ true)
tells = record {
  empty = refl;
  parts = λ c cs e. let k = both (is_digit c) (list_all is_digit cs) e in (grind (arith, nat_tests, k.0), k.1);
  more = λ c cs k e. grind (arith, nat_tests, k.0, k.1, e);
}

model : IsNumeralModel (λ ds. list_all is_digit ds ≡ true) (digits_value 10)
model = numerals_by_value (λ ds. list_all is_digit ds ≡ true) tells

-- digits, and at least one
record IsSome (word : List ℕ) : Type 0 where
  digits : list_all is_digit word ≡ true
  some : 0 < length word

some-by : (n : ℕ) (one more lead : Bool) → (n == 1) ≡ one → nat_lt 1 n ≡ more → (one || (more && lead)) ≡ true → 0 < n
some-by n true more lead a b h = grind (arith, nat_tests, a)
some-by n false true lead a b h = grind (arith, nat_tests, b)
some-by n false false lead a b h = cc

decimal-some : (word : List ℕ) → is_decimal word ≡ true → IsSome word
unfolding is_decimal
decimal-some word h =
    let parts = both (list_all is_digit word) _ h in
    record {
      digits = parts.0;
      some = some-by (length word) (length word == 1) (nat_lt 1 (length word)) (not (slice_index word 0 == 48)) refl refl parts.1;
    }

by-value : {E : Type 0} (word : List ℕ) (r : Result ℕ E) (small : Bool) → nat_lt (digits_value 10 word) (2 ^ 64) ≡ small → IsNumeral 10 word → ParsesUnsigned 64 10 word r →
    without_leading_plus word ≡ word → result_ok r ≡ cond small (Some (digits_value 10 word)) None
by-value word (Ok x) true e numeral h plain = let k = rw plain at h in ap Some k.1
by-value word (Ok x) false e numeral h plain =
    let k = rw plain at h in
    let no : nat_lt (digits_value 10 word) (2 ^ 64) ≡ true = lt-ltb (digits_value 10 word) (2 ^ 64) k.0.1 in
    cc
by-value word (Err e) true is numeral h plain =
    let k = rw plain at h in
    absurd (k (numeral, ltb-true (digits_value 10 word) (2 ^ 64) is))
by-value word (Err e) false is numeral h plain = refl

pub parsed : {E : Type 0} (word : List ℕ) (r : Result ℕ E) → is_decimal word ≡ true → ParsesUnsigned 64 10 word r → result_ok r ≡ number_in word
parsed word r is h =
    let s = decimal-some word is in
    let plain = without_leading_plus_none word (not_in_digits model word 43 s.digits (λ range. omega (arith, range.0)) 0 s.some) in
    by-value word r (nat_lt (digits_value 10 word) (2 ^ 64)) refl (s.some, model.to word s.digits) h plain
    ∙ ap (λ b. cond (b && nat_lt (digits_value 10 word) (2 ^ 64)) (Some (digits_value 10 word)) None) (sym is)
