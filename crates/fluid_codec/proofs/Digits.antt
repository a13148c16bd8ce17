-- Hexadecimal digits stand for the bytes that are written by them.
use Rattle.std.proofs.Common.{◌≡◌, ℕ, zero, suc, ◌+◌, ◌*◌, ◌/◌, ◌%◌, ◌<◌, ◌==◌, ◌&&◌, not, List, [], ◌∷◌, length, get_or, drop, map, nat_lt, Bool, true, false, cond, Option, Some, None, Result, Ok, Err, inl, inr, refl, ap, ap₂, sym, ◌∙◌, arith}
use Rattle.std.specs.Prelude.{slice_index}
use Rattle.std.specs.List.{list_any}
use Rattle.std.specs.Result.{result_ok, result_unwrap_or}
use Rattle.std.proofs.lemmas.Bool.{and_parts, or_parts, eqb-true, cases_lt}
use Rattle.hex.specs.Hex.{IsBytes, encode_with, encode_lower, lower_digits, hex_digit_value, digit_or_error, value_at, pair_value, decode_pairs, decode_of, decode_sized, ◌>>=◌}
use Rattle.hex.specs.declared.error.FromHexError.{FromHexError}
use Rattle.hex.proofs.HexLemmas.{IsDigits-lower_digits, length-encode_with, decode_of-ok, decode_of-even, decode_sized-ok, decode_sized-twice, decode_sized-encode_lower}
use Rattle.hex.proofs.Pairs.{cons_byte, decode_pairs-ok_pair}
use Rattle.fluid_codec.specs.Events.{is_upper, lower_hex}
use Rattle.fluid_codec.specs.EventSpellings.{in_lower_case}

-- ---- the sixteen digits

abbrev all_below : (ℕ → Bool) → ℕ → Bool
all_below p zero = true
all_below p (suc n) = p n && all_below p n

below : (p : ℕ → Bool) (n v : ℕ) → all_below p n ≡ true → v < n → p v ≡ true
below p zero v h lt = absurd (omega arith)
below p (suc n) v h lt =
    let parts = and_parts (p n) (all_below p n) h in
    elim (cases_lt v n) [
      | inl low ↦ below p n v parts.1 low
      | inr top ↦
          let e : v ≡ n = omega arith in
          rw e parts.0
    ]

abbrev lower_digit : ℕ → ℕ
lower_digit v = cond (nat_lt v 10) (v + 48) (v + 87)

digit_at : (v : ℕ) → v < 16 → slice_index lower_digits v ≡ lower_digit v
digit_at v h = eqb-true (slice_index lower_digits v) (lower_digit v) (below (λ d. slice_index lower_digits d == lower_digit d) 16 v refl h)

not_true : (b : Bool) → not b ≡ true → b ≡ false
not_true false h = refl
not_true true h = cc

digit_not_upper : (v : ℕ) → v < 16 → is_upper (slice_index lower_digits v) ≡ false
digit_not_upper v h = not_true _ (below (λ d. not (is_upper (slice_index lower_digits d))) 16 v refl h)

digit_small : (c v : ℕ) → hex_digit_value c ≡ Some v → v < 16
digit_small c v h = grind (arith)

digit_in_lower : (c v : ℕ) → hex_digit_value c ≡ Some v → in_lower_case c ≡ lower_digit v
digit_in_lower c v h = grind (arith)

same_value : (c : ℕ) → hex_digit_value c ≡ hex_digit_value (in_lower_case c)
same_value c = grind (arith)

value_of_digit : (c d : ℕ) → d < 16 → in_lower_case c ≡ slice_index lower_digits d → hex_digit_value c ≡ Some d
value_of_digit c d h e = same_value c ∙ ap hex_digit_value e ∙ IsDigits-lower_digits d h

-- ---- pairs of digits

bind_ok : {A B : Type 0} (r : Result A FromHexError) (f : A → Result B FromHexError) (y : B) → (r >>= f) ≡ Ok y → (x : A) × (r ≡ Ok x) × (f x ≡ Ok y)
bind_ok (Ok x) f y h = (x, refl, h)
bind_ok (Err e) f y h = cc

digit_read : (c i : ℕ) (o : Option ℕ) (v : ℕ) → digit_or_error c i o ≡ Ok v → o ≡ Some v
digit_read c i (Some w) v h = ap Some (ap (λ (r : Result ℕ FromHexError). result_unwrap_or r 0) h)
digit_read c i None v h = cc

in_pairs : (i : ℕ) (s bytes : List ℕ) → decode_pairs i s ≡ Ok bytes → map in_lower_case s ≡ encode_lower bytes
unfolding decode_pairs encode_with
in_pairs i [] bytes h =
    let e : [] ≡ bytes = ap (λ (r : Result (List ℕ) FromHexError). result_unwrap_or r []) h in
    ap encode_lower e
in_pairs i (a ∷ []) bytes h = cc
in_pairs i (a ∷ b ∷ rest) bytes h =
    let pair = bind_ok (pair_value a b i) _ bytes h in
    let high = bind_ok (value_at a i) _ pair.0 pair.1 in
    let low = bind_ok (value_at b (i + 1)) _ pair.0 high.2 in
    let more = bind_ok (decode_pairs (i + 2) rest) _ bytes pair.2 in
    let of_a = digit_read a i (hex_digit_value a) high.0 high.1 in
    let of_b = digit_read b (i + 1) (hex_digit_value b) low.0 low.1 in
    let byte : high.0 * 16 + low.0 ≡ pair.0 = ap (λ (r : Result ℕ FromHexError). result_unwrap_or r 0) low.2 in
    let small_a = digit_small a high.0 of_a in
    let small_b = digit_small b low.0 of_b in
    let is_high : high.0 ≡ pair.0 / 16 = omega arith in
    let is_low : low.0 ≡ pair.0 % 16 = omega arith in
    let first : in_lower_case a ≡ slice_index lower_digits (pair.0 / 16) = digit_in_lower a high.0 of_a ∙ sym (digit_at high.0 small_a) ∙ ap (slice_index lower_digits) is_high in
    let second : in_lower_case b ≡ slice_index lower_digits (pair.0 % 16) = digit_in_lower b low.0 of_b ∙ sym (digit_at low.0 small_b) ∙ ap (slice_index lower_digits) is_low in
    let e : pair.0 ∷ more.0 ≡ bytes = ap (λ (r : Result (List ℕ) FromHexError). result_unwrap_or r []) more.2 in
    ap₂ (λ x y. x ∷ y) first (ap₂ (λ x y. x ∷ y) second (in_pairs (i + 2) rest more.0 more.1)) ∙ ap encode_lower e

pairs_of : (i : ℕ) (s bytes : List ℕ) → IsBytes bytes → map in_lower_case s ≡ encode_lower bytes → decode_pairs i s ≡ Ok bytes
unfolding decode_pairs encode_with
pairs_of i [] [] all h = refl
pairs_of i [] (x ∷ xs) all h = absurd (omega (arith, ap length h))
pairs_of i (a ∷ []) [] all h = absurd (omega (arith, ap length h))
pairs_of i (a ∷ []) (x ∷ xs) all h = absurd (omega (arith, ap length h))
pairs_of i (a ∷ b ∷ s) [] all h = absurd (omega (arith, ap length h))
pairs_of i (a ∷ b ∷ s) (x ∷ xs) all h =
    let fits : x < 256 = all 0 in
    let of_a : value_at a i ≡ Ok (x / 16) = ap (digit_or_error a i) (value_of_digit a (x / 16) (omega arith) (ap (λ l. get_or l 0 0) h)) in
    let of_b : value_at b (i + 1) ≡ Ok (x % 16) = ap (digit_or_error b (i + 1)) (value_of_digit b (x % 16) (omega arith) (ap (λ l. get_or l 1 0) h)) in
    let pair : pair_value a b i ≡ Ok (x / 16 * 16 + x % 16) = rw (of_a, of_b) refl in
    let whole : x / 16 * 16 + x % 16 ≡ x = omega arith in
    decode_pairs-ok_pair i a b _ s pair
    ∙ ap (cons_byte (x / 16 * 16 + x % 16)) (pairs_of (i + 2) s xs (λ k. all (suc k)) (ap (drop 2) h)) ∙ ap (λ (v : ℕ). Ok (v ∷ xs)) whole

-- ---- texts of bytes

pub some_ok : (r : Result (List ℕ) FromHexError) (bytes : List ℕ) → result_ok r ≡ Some bytes → r ≡ Ok bytes
some_ok (Ok xs) bytes h = cc
some_ok (Err e) bytes h = cc

map-length : (s : List ℕ) → length (map in_lower_case s) ≡ length s
map-length [] = refl
map-length (c ∷ s) = ap suc (map-length s)

pub digits_of : (s bytes : List ℕ) → decode_of s ≡ Ok bytes → (map in_lower_case s ≡ encode_lower bytes) × IsBytes bytes
digits_of s bytes h =
    let facts = decode_of-ok s bytes h in
    (in_pairs 0 s bytes (sym (decode_of-even s facts.0) ∙ h), facts.3)

pub of_digits : (s bytes : List ℕ) → IsBytes bytes → map in_lower_case s ≡ encode_lower bytes → decode_of s ≡ Ok bytes
of_digits s bytes all h =
    decode_of-even s (omega (arith, map-length s, ap length h, length-encode_with lower_digits bytes)) ∙ pairs_of 0 s bytes all h

-- ---- texts of ids

no_upper : (s : List ℕ) → list_any is_upper s ≡ false → map in_lower_case s ≡ s
no_upper [] h = refl
no_upper (c ∷ s) h =
    let parts = or_parts (is_upper c) (list_any is_upper s) h in
    let same : in_lower_case c ≡ c = rw parts.0 refl in
    ap₂ (λ x y. x ∷ y) same (no_upper s parts.1)

not_upper : (bytes : List ℕ) → IsBytes bytes → list_any is_upper (encode_lower bytes) ≡ false
unfolding encode_with
not_upper [] all = refl
not_upper (x ∷ xs) all =
    let fits : x < 256 = all 0 in
    rw (digit_not_upper (x / 16) (omega arith), digit_not_upper (x % 16) (omega arith)) (not_upper xs (λ k. all (suc k)))

if_not : (b : Bool) (o : Option (List ℕ)) (a : List ℕ) → cond b None o ≡ Some a → (b ≡ false) × (o ≡ Some a)
if_not true o a h = cc
if_not false o a h = (refl, h)

pub id_digits : (n : ℕ) (s id : List ℕ) → lower_hex n s ≡ Some id → (s ≡ encode_lower id) × IsBytes id × (length id ≡ n)
id_digits n s id h =
    let test = if_not (list_any is_upper s) (result_ok (decode_sized s n)) id h in
    let read = some_ok (decode_sized s n) id test.1 in
    let long = decode_sized-ok s n id read in
    let whole = sym (decode_sized-twice s n long) ∙ read in
    let digits = digits_of s id whole in
    let size : length id ≡ n = omega (arith, (decode_of-ok s id whole).2) in
    (sym (no_upper s test.0) ∙ digits.0, digits.1, size)

pub digits_id : (n : ℕ) (id : List ℕ) → IsBytes id → length id ≡ n → lower_hex n (encode_lower id) ≡ Some id
digits_id n id all size = rw (not_upper id all) (ap result_ok (decode_sized-encode_lower id n size all))
