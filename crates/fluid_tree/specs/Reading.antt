-- The object that bytes are, or the place where they leave the grammar.
use Rattle.std.specs.Prelude.{ℕ, zero, suc, ◌+◌, ◌-◌, ◌*◌, ◌^◌, ◌==◌, ◌&&◌, max, nat_lt, not, List, [], ◌∷◌, ◌++◌, length, take, drop, map, fold, slice_index, slice_get, Bool, true, false, Option, Some, None, option_and_then, Result, Ok, Err, if◌then◌else◌, codes}
use Rattle.std.specs.Char.{is_ascii_digit}
use Rattle.std.specs.List.{prefix_len, position_or_len, common_prefix_len}
use Rattle.std.specs.Ordering.{nat_cmp, is_lt}
use Rattle.std.specs.Cmp.Lexicographic.{slice_cmp}
use Rattle.std.specs.Str.{is_utf8}
use Rattle.fluid_tree.specs.Names.{is_refused}
use Rattle.fluid_tree.specs.Object.{entry_bytes, mode, sort_key}
use Rattle.fluid_tree.specs.Identity.{◌>>=◌}
use Rattle.fluid_tree.specs.declared.object.Object.{Object}
use Rattle.fluid_tree.specs.declared.object.Object.TheVariants.{Blob, Tree}
use Rattle.fluid_tree.specs.declared.object.ObjectEntry.{ObjectEntry}
use Rattle.fluid_tree.specs.declared.fault.TreeFault.{TreeFault}
use Rattle.fluid_tree.specs.declared.fault.TreeFault.TheVariants.{BadObject}

-- how many bytes at the front are those of the word
unfoldable pub common : List ℕ → List ℕ → ℕ
common = common_prefix_len (λ x y. x == y)

-- whether it is a tree. The word and its blank are 5 bytes; where neither word is there, the place is the first byte that can't stand there
unfoldable pub word_of : List ℕ → Result Bool TreeFault
word_of s =
    if common (codes "blob ") s == 5 then Ok false
    else if common (codes "tree ") s == 5 then Ok true
    else Err (BadObject (max (common (codes "blob ") s) (common (codes "tree ") s)))

-- ---- the length: decimal digits without a leading zero, at most 2 ^ 53 - 1, and a zero byte behind them

abbrev pub digits_len : List ℕ → ℕ
digits_len = prefix_len is_ascii_digit

-- the number that decimal digits write
abbrev pub decimal_value : List ℕ → ℕ
decimal_value = fold (λ n digit. n * 10 + (digit - 48)) 0

-- of what stands behind the word, which is the place where it begins
unfoldable pub length_of : ℕ → List ℕ → Result ℕ TreeFault
length_of place s =
    if digits_len s == 0 then Err (BadObject place)
    else if slice_index s 0 == 48 && nat_lt 1 (digits_len s) then Err (BadObject (place + 1))
    else if nat_lt (2 ^ 53 - 1) (decimal_value (take (digits_len s) s)) then Err (BadObject place)
    else if nat_lt (digits_len s) (length s) && slice_index s (digits_len s) == 0 then Ok (decimal_value (take (digits_len s) s))
    else Err (BadObject (place + digits_len s))

-- ---- of `total` bytes those from `place` on are as many as the length says

unfoldable pub ends_at : ℕ → ℕ → ℕ → Result (Unit {0}) TreeFault
ends_at total place n =
    if nat_lt total (place + n) then Err (BadObject total)
    else if nat_lt (place + n) total then Err (BadObject (place + n))
    else Ok tt

-- ---- the entries of a tree's body, one after the other

-- the mode of an entry, with its blank
abbrev pub mode_at : List ℕ → Option Bool
mode_at s = if common (codes "40000 ") s == 6 then Some true else if common (codes "100644 ") s == 7 then Some false else None

-- the entry with this mode, whose name in UTF-8 ends at a zero byte, with 20 bytes of id behind that
abbrev pub named_at : Bool → ℕ → List ℕ → Option ObjectEntry
named_at tree end s =
    if nat_lt (end + 20) (length s) && is_utf8 (take end s)
    then Some (record { name = take end s; tree = tree; id = take 20 (drop (end + 1) s) }) else None

-- the entry with which the bytes begin
unfoldable pub entry_at : List ℕ → Option ObjectEntry
entry_at s = option_and_then (λ tree. named_at tree (position_or_len (λ x. x == 0) (drop (length (mode tree) + 1) s)) (drop (length (mode tree) + 1) s)) (mode_at s)

-- the entry stands behind the one before it, where there is one, in the order of entries
abbrev pub is_behind : Option ObjectEntry → ObjectEntry → Bool
is_behind None e = true
is_behind (Some f) e = is_lt (slice_cmp nat_cmp (sort_key f.tree f.name) (sort_key e.tree e.name))

abbrev pub fits_behind : List ObjectEntry → ObjectEntry → Bool
fits_behind before e = not (is_refused (map (λ f. f.name) before) e.name) && is_behind (slice_get before (length before - 1)) e

abbrev pub entry_or : (List ObjectEntry → List ℕ → Result (List ObjectEntry) TreeFault) → ℕ → List ObjectEntry → List ℕ → Option ObjectEntry → Result (List ObjectEntry) TreeFault
entry_or more place before s None = Err (BadObject place)
entry_or more place before s (Some e) = if fits_behind before e then more (before ++ e ∷ []) (drop (length (entry_bytes e)) s) else Err (BadObject place)

-- the entries in what is left; `before` were read, and at most n more are. The bytes end with the body, so a place is the length of all less that of the rest
unfoldable pub entries_of : ℕ → ℕ → List ObjectEntry → List ℕ → Result (List ObjectEntry) TreeFault
entries_of total n before [] = Ok before
entries_of total zero before (x ∷ xs) = Err (BadObject (total - length (x ∷ xs)))
entries_of total (suc n) before (x ∷ xs) = entry_or (entries_of total n) (total - length (x ∷ xs)) before (x ∷ xs) (entry_at (x ∷ xs))

unfoldable pub content_of : Bool → ℕ → List ℕ → Result Object TreeFault
content_of false total body = Ok (Blob body)
content_of true total body = do
  entries ← entries_of total (length body) [] body
  Ok (Tree entries)

-- the rows of the grammar, in order: the word, the length, as many bytes as it says, what these say
unfoldable pub object_read : List ℕ → Result Object TreeFault
object_read s = do
  tree ← word_of s
  n ← length_of 5 (drop 5 s)
  ok ← ends_at (length s) (digits_len (drop 5 s) + 6) n
  content_of tree (length s) (drop (digits_len (drop 5 s) + 6) s)
