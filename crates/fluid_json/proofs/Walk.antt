-- A text with few opening brackets isn't deep.
use Rattle.std.proofs.Common.{◌≡◌, ℕ, suc, ◌+◌, ◌-◌, ◌<◌, ◌≤◌, ◌||◌, List, [], ◌∷◌, Bool, true, false, cond, count_by, refl, arith}
use Rattle.std.proofs.lemmas.Bool.{lt-leb}
use Rattle.std.proofs.lemmas.List.Sums.{sum_by-cons}
use Rattle.fluid_json.specs.declared.nesting.Place.{Place}
use Rattle.fluid_json.specs.declared.nesting.Place.TheVariants.{Outside, Inside, Escaped}
use Rattle.fluid_json.specs.Spelled.{reaches, place_after, depth_after, is_opening, is_closing}

deeper : (opening closing : Bool) (depth : ℕ) → cond opening (suc depth) (cond closing (depth - 1) depth) ≤ depth + cond opening 1 0
deeper true closing depth = omega arith
deeper false true depth = omega arith
deeper false false depth = omega arith

at_most_one : (place : Place) (depth x : ℕ) → depth_after place depth x ≤ depth + cond (is_opening x) 1 0
at_most_one Outside depth x = deeper (is_opening x) (is_closing x) depth
at_most_one Inside depth x = omega arith
at_most_one Escaped depth x = omega arith

neither : (a b : Bool) → a ≡ false → b ≡ false → a || b ≡ false
neither a b p q = rw (p, q) refl

pub few : (top : ℕ) (place : Place) (depth : ℕ) (xs : List ℕ) → depth + count_by is_opening xs < top → reaches top place depth xs ≡ false
unfolding reaches
few top place depth [] h = refl
few top place depth (x ∷ xs) h =
    let one = at_most_one place depth x in
    let all = sum_by-cons (λ y. cond (is_opening y) 1 0) x xs in
    neither _ _ (lt-leb _ _ (omega (arith, one, all))) (few top (place_after place x) (depth_after place depth x) xs (omega (arith, one, all)))
