-- The first numbers of a list of numbers that rise by one.
use Rattle.std.proofs.Common.{◌≡◌, ℕ, zero, suc, ◌+◌, ◌∷◌, take, min, ap, ◌∙◌, arith}
use Rattle.std.specs.List.{range_with_len}

pub take-range_with_len : (a most count : ℕ) → take most (range_with_len a count) ≡ range_with_len a (min count most)
take-range_with_len a zero count =
    let none : 0 ≡ min count 0 = omega arith in
    ap (range_with_len a) none
take-range_with_len a (suc most) zero =
    let none : 0 ≡ min 0 (suc most) = omega arith in
    ap (range_with_len a) none
take-range_with_len a (suc most) (suc count) =
    let one_more : suc (min count most) ≡ min (suc count) (suc most) = omega arith in
    ap (λ rest. a ∷ rest) (take-range_with_len (a + 1) most count) ∙ ap (range_with_len a) one_more
