-- The numbers that words spell.
use Rattle.std.specs.Prelude.{ℕ, ◌^◌, Bool, option_and_then, ◌&&◌, ◌||◌, ◌==◌, not, nat_le, nat_lt, List, length, slice_index, Option, Some, None, if◌then◌else◌}
use Rattle.std.specs.List.{list_all}
use Rattle.std.specs.Str.Parse.{digits_value}

abbrev pub is_digit : ℕ → Bool
is_digit byte = nat_le 48 byte && nat_le byte 57

-- at least one decimal digit, and no leading zero before others
unfoldable pub is_decimal : List ℕ → Bool
is_decimal word = list_all is_digit word && (length word == 1 || (nat_lt 1 (length word) && not (slice_index word 0 == 48)))

-- the number of 64 bits that a word spells
abbrev pub number_in : List ℕ → Option ℕ
number_in word = if is_decimal word && nat_lt (digits_value 10 word) (2 ^ 64) then Some (digits_value 10 word) else None

abbrev pub within : (least most n : ℕ) → Option ℕ
within least most n = if nat_le least n && nat_le n most then Some n else None

-- the number from `least` to `most` that a word spells
abbrev pub number_within : (least most : ℕ) → List ℕ → Option ℕ
number_within least most word = option_and_then (within least most) (number_in word)
