-- What is printed of a value whose texts are UTF-8.
use Rattle.std.proofs.Common.{ℕ, ℤ, pos, negsuc, zero, suc, true, false, ◌++◌, List, IsUtf8, codes, refl, arith}
use Rattle.std.specs.Str.{IsAscii}
use Rattle.std.specs.Fmt.{signed_decimal}
use Rattle.std.proofs.lemmas.Fmt.{IsAscii-decimal_wide}
use Rattle.std.proofs.lemmas.Str.{IsUtf8-nil, IsUtf8-append, IsUtf8-from_ascii}
use Rattle.json.specs.Print.{quoted}
use Rattle.json.proofs.Printed.Utf8.{IsUtf8-are_ascii, IsUtf8-quoted}
use Rattle.fluid_json.specs.Printed.{printed, printed_items, printed_more_items, printed_members, printed_more_members}
use Rattle.fluid_json.specs.Tree.{Tree, null, boolean, whole, text, list, object, Trees, no_trees, tree, Members, no_members, member, IsSigned, IsCanonical, AreCanonical, HasCanonical}
use Rattle.fluid_texts.specs.Laws.{TextsArePrinted, TextsAreWritable}
use Rattle.fluid_texts.specs.Texts.{IsText, AreTexts, HasTexts, IsWritable, AreWritable, HasWritable}

number_ascii : (z : ℤ) → IsSigned z → IsAscii (signed_decimal z)
number_ascii (pos n) fits i = IsAscii-decimal_wide n (omega (arith, fits)) i
number_ascii (negsuc n) fits zero = omega arith
number_ascii (negsuc n) fits (suc i) = IsAscii-decimal_wide (suc n) (omega (arith, fits)) i

-- a mark, a text and what stands behind it
two : (a b : List ℕ) → IsUtf8 a → IsUtf8 b → IsUtf8 (a ++ b)
two a b = IsUtf8-append a b

keyed : (k : List ℕ) (rest : List ℕ) → IsUtf8 k → IsUtf8 rest → IsUtf8 (quoted k ++ (codes ":" ++ rest))
keyed k rest u r = two (quoted k) (codes ":" ++ rest) (IsUtf8-quoted k u) (two (codes ":") rest (IsUtf8-are_ascii (codes ":") refl) r)

mutual
  one : (t : Tree) → IsWritable t → IsUtf8 (printed t)
  one null h = IsUtf8-are_ascii (codes "null") refl
  one (boolean true) h = IsUtf8-are_ascii (codes "true") refl
  one (boolean false) h = IsUtf8-are_ascii (codes "false") refl
  one (whole n) h = IsUtf8-from_ascii (signed_decimal n) (number_ascii n h)
  one (text s) h = IsUtf8-quoted s h
  one (list ts) h = two (codes "[") (printed_items ts ++ codes "]") (IsUtf8-are_ascii (codes "[") refl) (two (printed_items ts) (codes "]") (items ts h) (IsUtf8-are_ascii (codes "]") refl))
  one (object ms) h = two (codes "{") (printed_members ms ++ codes "}") (IsUtf8-are_ascii (codes "{") refl) (two (printed_members ms) (codes "}") (members ms h) (IsUtf8-are_ascii (codes "}") refl))

  items : (ts : Trees) → AreWritable ts → IsUtf8 (printed_items ts)
  items no_trees h = IsUtf8-nil
  items (tree t ts) h = two (printed t) (printed_more_items ts) (one t h.0) (more_items ts h.1)

  more_items : (ts : Trees) → AreWritable ts → IsUtf8 (printed_more_items ts)
  more_items no_trees h = IsUtf8-nil
  more_items (tree t ts) h = two (codes ",") (printed t ++ printed_more_items ts) (IsUtf8-are_ascii (codes ",") refl) (two (printed t) (printed_more_items ts) (one t h.0) (more_items ts h.1))

  members : (ms : Members) → HasWritable ms → IsUtf8 (printed_members ms)
  members no_members h = IsUtf8-nil
  members (member k t ms) h = keyed k (printed t ++ printed_more_members ms) h.0 (two (printed t) (printed_more_members ms) (one t h.1.0) (more_members ms h.1.1))

  more_members : (ms : Members) → HasWritable ms → IsUtf8 (printed_more_members ms)
  more_members no_members h = IsUtf8-nil
  more_members (member k t ms) h =
      two (codes ",") (quoted k ++ (codes ":" ++ (printed t ++ printed_more_members ms))) (IsUtf8-are_ascii (codes ",") refl)
      (keyed k (printed t ++ printed_more_members ms) h.0 (two (printed t) (printed_more_members ms) (one t h.1.0) (more_members ms h.1.1)))

pub texts_are_printed : TextsArePrinted
texts_are_printed = one

-- ---- values as they are kept

mutual
  kept : (t : Tree) → IsCanonical t → IsText t → IsWritable t
  kept null c h = tt
  kept (boolean b) c h = tt
  kept (whole n) c h = c
  kept (text s) c h = h
  kept (list ts) c h = all_kept ts c h
  kept (object ms) c h = each_kept ms c h

  all_kept : (ts : Trees) → AreCanonical ts → AreTexts ts → AreWritable ts
  all_kept no_trees c h = tt
  all_kept (tree t ts) c h = (kept t c.0 h.0, all_kept ts c.1 h.1)

  each_kept : (ms : Members) → HasCanonical ms → HasTexts ms → HasWritable ms
  each_kept no_members c h = tt
  each_kept (member k t ms) c h = (h.0, (kept t c.1.0 h.1.0, each_kept ms c.1.1 h.1.1))

pub texts_are_writable : TextsAreWritable
texts_are_writable = kept
