-- The text of an id: two lower-case hexadecimal digits for each of its 20 bytes.
use Rattle.std.specs.Prelude.{ℕ, ◌&&◌, ◌||◌, List, nat_le, Bool, Option, None, if◌then◌else◌}
use Rattle.std.specs.List.{list_all}
use Rattle.std.specs.Result.{result_ok}
use Rattle.hex.specs.Hex.{decode_sized}

abbrev pub is_lower_digit : ℕ → Bool
is_lower_digit x = nat_le 48 x && nat_le x 57 || nat_le 97 x && nat_le x 102

-- the 20 bytes that a text stands for
unfoldable pub id_read : List ℕ → Option (List ℕ)
id_read s = if list_all is_lower_digit s then result_ok (decode_sized s 20) else None
