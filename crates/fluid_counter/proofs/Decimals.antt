-- The decimal text of a total, read and looked for in its content.
use Rattle.std.proofs.Common.{◌≡◌, refl, ap, subst, ◌∙◌, ℕ, suc, ◌-◌, ℤ, pos, negsuc, List, ◌∷◌, ◌++◌, length, take, drop, get_or, Result, Ok, Err, true, false, not, nat_eq, zero, rules, IsAscii, IsUtf8, arith}
use Rattle.std.specs.Int.{w128}
use Rattle.std.specs.Prelude.{codes, neg_ℤ, ◌≢◌}
use Rattle.std.specs.Result.{OkIff}
use Rattle.std.specs.Fmt.{decimal, signed_decimal}
use Rattle.std.specs.Str.Parse.{ParsesSigned, signed_digits_value}
use Rattle.std.specs.Cmp.Lexicographic.{pointwise}
use Rattle.std.proofs.lemmas.Fmt.{decimal_is_IsNumeral_wide, IsAscii-decimal_wide}
use Rattle.std.proofs.lemmas.Str.{IsUtf8-from_ascii}
use Rattle.std.proofs.lemmas.Str.Parse.{numerals_by_value, tells_digits, parse_signed_minus, parse_signed_digits, not_in_digits}
use Rattle.std.proofs.lemmas.List.{length-append}
use Rattle.std.proofs.Math.Seq.{take-append_seam, drop-append_seam}
use Rattle.std.proofs.lemmas.Bool.{ne_eqb}
use Rattle.std.specs.Str.{bytes_eq}
use Rattle.std.proofs.lemmas.Slice.Eq.{bytes_eq-Decides}
use Rattle.fluid_counter.specs.Content.{content, IsStorable}

ok_from : {T E : Type 0} (r : Result T E) (P : Type 0) (x : T) → OkIff r P x → P → r ≡ Ok x
ok_from (Ok y) P x h p = ap Ok h.1
ok_from (Err e) P x h p = absurd (h p)

-- what is printed of a total is parsed as it
pub parsed : {E : Type 0} (total : ℤ) (text : List ℕ) (r : Result ℤ E) → IsStorable total → text ≡ signed_decimal total → ParsesSigned w128 10 text r → r ≡ Ok total
parsed (pos n) text r small is h =
    let k = decimal_is_IsNumeral_wide n (omega arith) in
    let read = parse_signed_digits (numerals_by_value _ tells_digits) w128 (decimal n) r (subst (λ l. ParsesSigned w128 10 l r) is h) k.0.1 in
    ok_from r _ _ read (k.0.0, omega (arith, k.1)) ∙ ap (λ m. Ok (pos m)) k.1
parsed (negsuc n) text r small is h =
    let k = decimal_is_IsNumeral_wide (suc n) (omega arith) in
    let read = parse_signed_minus (numerals_by_value _ tells_digits) w128 (45 ∷ decimal (suc n)) r (subst (λ l. ParsesSigned w128 10 l r) is h) refl in
    ok_from r _ _ read (k.0.1, k.0.0, omega (arith, k.1)) ∙ ap (λ m. Ok (neg_ℤ (pos m))) k.1

-- a decimal text has the value of its number
pub value-signed_decimal : (total : ℤ) → IsStorable total → signed_digits_value 10 (signed_decimal total) ≡ total
value-signed_decimal (pos n) small =
    let k = decimal_is_IsNumeral_wide n (omega arith) in
    let minus : get_or (decimal n) 0 0 ≢ 45 = not_in_digits (numerals_by_value _ tells_digits) (decimal n) 45 k.0.1 (λ range. omega (arith, range)) 0 k.0.0 in
    let plus : get_or (decimal n) 0 0 ≢ 43 = not_in_digits (numerals_by_value _ tells_digits) (decimal n) 43 k.0.1 (λ range. omega (arith, range)) 0 k.0.0 in
    rw (ne_eqb _ 45 minus, ne_eqb _ 43 plus) (ap pos k.1)
value-signed_decimal (negsuc n) small = ap (λ m. neg_ℤ (pos m)) (decimal_is_IsNumeral_wide (suc n) (omega arith)).1

ascii : (total : ℤ) → IsStorable total → IsAscii (signed_decimal total)
ascii (pos n) small i = IsAscii-decimal_wide n (omega arith) i
ascii (negsuc n) small zero = omega arith
ascii (negsuc n) small (suc i) = IsAscii-decimal_wide (suc n) (omega arith) i

pub utf8 : (total : ℤ) → IsStorable total → IsUtf8 (signed_decimal total)
utf8 total small = IsUtf8-from_ascii (signed_decimal total) (ascii total small)

-- ---- the text in front of the number and the text behind it

unfoldable behind : List ℕ
behind = codes "\"}"

long : (digits : List ℕ) → length (digits ++ behind) - 2 ≡ length digits
unfolding behind
long digits = omega (arith, length-append digits behind)

pub begins : (total : ℤ) → pointwise nat_eq (take 10 (content total)) (codes "{\"value\":\"") ≡ true
unfolding content
begins total = refl

pub rest : (total : ℤ) → drop 10 (content total) ≡ signed_decimal total ++ codes "\"}"
unfolding content
rest total = refl

pub ends : (digits : List ℕ) → pointwise nat_eq (drop (length (digits ++ codes "\"}") - 2) (digits ++ codes "\"}")) (codes "\"}") ≡ true
unfolding behind
ends digits = ap (λ n. pointwise nat_eq (drop n (digits ++ behind)) behind) (long digits) ∙ ap (λ l. pointwise nat_eq l behind) (drop-append_seam digits behind)

pub cut : (digits : List ℕ) → take (length (digits ++ codes "\"}") - 2) (digits ++ codes "\"}") ≡ digits
unfolding behind
cut digits = ap (λ n. take n (digits ++ behind)) (long digits) ∙ take-append_seam digits behind

pub equal : (s t : List ℕ) → false ≡ not (bytes_eq s t) → s ≡ t
equal s t e = search (rules, bytes_eq-Decides s t)
