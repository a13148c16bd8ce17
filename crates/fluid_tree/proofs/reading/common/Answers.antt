use Rattle.std.proofs.Common.{◌≡◌, ℕ, ◌+◌, ◌==◌, List, [], ◌∷◌, drop, add-zero, refl, sym, ap, ◌∙◌, arith}
use Rattle.std.proofs.lemmas.List.{drop_all}
use Rattle.std.specs.List.{common_prefix_len}
use Rattle.fluid_tree.specs.Reading.{common}
use Rattle.fluid_tree.proofs.reading.common.Goals as goal

none_left : (xs : List ℕ) → common_prefix_len (λ x y. x == y) xs [] ≡ 0
none_left [] = refl
none_left (x ∷ xs) = refl

pub returns-then-count-bytes-clause-common : goal.returns-then-count-bytes-clause-common
unfolding common
returns-then-count-bytes-clause-common c =
    let count = c.loop-expected.count in
    let left = drop count c.args.word.now in
    sym (c.loop-expected.invariant.left ∙ ap (λ ys. count + common_prefix_len (λ x y. x == y) left ys) (drop_all count c.args.bytes.now (omega arith)) ∙ ap (λ n. count + n) (none_left left) ∙ add-zero count)
