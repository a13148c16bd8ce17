use Rattle.std.proofs.Common.{◌≡◌, ℕ, List, [], ◌∷◌, map, refl, ap, ◌∙◌, rules}
use Rattle.std.proofs.lemmas.Fn.{always_returns_same}
use Rattle.std.specs.Ordering.{is_lt, nat_cmp}
use Rattle.std.specs.Cmp.{nat_cmp_total}
use Rattle.std.specs.FinMap.{is_sorted}
use Rattle.fluid_table.proofs.Neighbours.{told}
use Rattle.fluid_checkpoint.proofs.members.are_rising.Goals as goal

same : (es : List (ℕ × ℕ)) → map (λ e. (e.0, e.1)) es ≡ es
same [] = refl
same (e ∷ es) = ap (λ rest. e ∷ rest) (same es)

-- the closure compares the numbers of two changes
pub returns : goal.returns
returns c =
    told (λ e. e.0) (λ e. e.1) nat_cmp_total c.args.changes.now c.is_sorted_by.result
    (c.is_sorted_by.ensures.cases (λ x y. is_lt (nat_cmp x.0 y.0)) (always_returns_same _ _ _ (λ a r f called. search rules)))
    ∙ ap (is_sorted nat_cmp) (same c.args.changes.now)
