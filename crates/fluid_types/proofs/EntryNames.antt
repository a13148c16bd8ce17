use Rattle.std.proofs.Common.{◌≡◌, ℕ, ◌<◌, ◌≤◌, ◌^◌, true, List, [], ◌∷◌, length, refl, arith, nat_le, suc, decimal, All, le-leb}
use Rattle.std.specs.Int.{IsInRange}
use Rattle.std.specs.List.{list_all}
use Rattle.std.proofs.lemmas.Bool.Decides.{nat_tests}
use Rattle.std.proofs.lemmas.List.Elements.{All-from_get_or, All-head, All-tail}
use Rattle.std.proofs.lemmas.Fmt.{decimal_is_IsNumeral, length-decimal-le}
use Rattle.std.proofs.lemmas.Str.Parse.{digit_at}
use Rattle.fluid_types.specs.Names.{is_name_byte, is_name, IsName, entry_name}

digit_is_name_byte : (b : ℕ) → IsInRange 48 57 b → is_name_byte b ≡ true
digit_is_name_byte b h = grind (arith, nat_tests)

digits_are_name_bytes : (digits : List ℕ) → All (IsInRange 48 57) digits → list_all is_name_byte digits ≡ true
digits_are_name_bytes [] h = refl
digits_are_name_bytes (d ∷ digits) h =
    rw (digit_is_name_byte d (All-head (IsInRange 48 57) d digits h)) (digits_are_name_bytes digits (All-tail (IsInRange 48 57) d digits h))

decimal_digits : (n : ℕ) → n < 2 ^ 64 → All (IsInRange 48 57) (decimal n)
decimal_digits n fits = All-from_get_or (IsInRange 48 57) (decimal n) 0 λ i h. digit_at (decimal n) i (decimal_is_IsNumeral n fits).0.1 h

name_of_digits : (digits : List ℕ) → length digits ≤ 20 → list_all is_name_byte digits ≡ true → IsName (99 ∷ digits)
unfolding is_name
name_of_digits digits short h =
    let least : nat_le 1 (suc (length digits)) ≡ true = le-leb 1 (suc (length digits)) (omega arith) in
    let most : nat_le (suc (length digits)) 64 ≡ true = le-leb (suc (length digits)) 64 (omega arith) in
    rw (least, most) h

-- the id of an entry is a name
pub entry_name-is_name : (n : ℕ) → n < 2 ^ 64 → IsName (entry_name n)
entry_name-is_name n fits = name_of_digits (decimal n) (length-decimal-le 20 n (omega arith) (omega arith) fits) (digits_are_name_bytes (decimal n) (decimal_digits n fits))
