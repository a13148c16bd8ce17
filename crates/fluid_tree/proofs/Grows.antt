-- A number grows with its digits.
use Rattle.std.proofs.Common.{◌≡◌, ℕ, ◌+◌, ◌-◌, ◌*◌, ◌^◌, ◌<◌, ◌≤◌, List, [], ◌∷◌, length, get_or, drop, fold, sym, ◌∙◌, arith}
use Rattle.std.proofs.lemmas.List.{at_drop_more}

abbrev step : ℕ → ℕ → ℕ
step n digit = n * 10 + (digit - 48)

grows : (ds : List ℕ) (v : ℕ) → v ≤ fold (λ n digit. n * 10 + (digit - 48)) v ds
grows [] v = omega arith
grows (d ∷ ds) v = let more : v * 10 + (d - 48) ≤ fold (λ n digit. n * 10 + (digit - 48)) (v * 10 + (d - 48)) ds = grows ds (v * 10 + (d - 48)) in omega arith

pub too_great : (digits : List ℕ) (i v w all : ℕ) → i < length digits → fold (λ n digit. n * 10 + (digit - 48)) v (drop i digits) ≡ all
    → w ≡ v * 10 + (get_or digits i 0 - 48) → 2 ^ 53 - 1 < w → 2 ^ 53 - 1 < all
too_great digits i v w all lt left is great =
    let here = at_drop_more (fold (λ n digit. n * 10 + (digit - 48)) v) digits i 0 lt in
    let more = grows (drop (i + 1) digits) (v * 10 + (get_or digits i 0 - 48)) in
    omega (arith, sym here ∙ left, more)
