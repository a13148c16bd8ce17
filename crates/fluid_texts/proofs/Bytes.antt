-- A text in UTF-8, cut at an ASCII byte.
use Rattle.std.proofs.Common.{ℕ, ◌+◌, ◌<◌, List, [], ◌∷◌, ◌++◌, length, get_or, IsUtf8, subst, arith, length-append}
use Rattle.std.proofs.Math.Seq.{take-append_seam, drop-append-add, get_or-append_seam}
use Rattle.std.proofs.Math.Utf8.{low_scalar}
use Rattle.std.proofs.lemmas.Str.{IsUtf8-take, IsUtf8-drop, IsUtf8-encode, IsCharBoundary-before_ascii, IsCharBoundary-after_ascii, encode_ascii}

module _ (p s : List ℕ) (a : ℕ) (small : a < 128) where
  within : length p < length (p ++ a ∷ s)
  within = omega (arith, length-append p (a ∷ s))

  low : get_or (p ++ a ∷ s) (length p) 0 < 128
  low = omega (arith, small, get_or-append_seam p a s 0)

  -- what stands before it, and what stands behind it
  pub before : IsUtf8 (p ++ a ∷ s) → IsUtf8 p
  before u = subst IsUtf8 (take-append_seam p (a ∷ s)) (IsUtf8-take (p ++ a ∷ s) (length p) u (IsCharBoundary-before_ascii (p ++ a ∷ s) (length p) within low))

  pub behind : IsUtf8 (p ++ a ∷ s) → IsUtf8 s
  behind u = subst IsUtf8 (drop-append-add p (a ∷ s) 1) (IsUtf8-drop (p ++ a ∷ s) (length p + 1) u (IsCharBoundary-after_ascii (p ++ a ∷ s) (length p) u within low))

pub one_byte : (a : ℕ) → a < 128 → IsUtf8 (a ∷ [])
one_byte a small = subst IsUtf8 (encode_ascii a small) (IsUtf8-encode a (low_scalar a (omega arith)))
