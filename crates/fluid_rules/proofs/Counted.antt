-- The count of a ledger's entries: none at first, one more with each that counts, and at most one an entry.
use Rattle.std.proofs.Common.{◌≡◌, ◌+◌, ◌≤◌, [], ◌∷◌, ◌++◌, length, refl, ◌∙◌, ap, cond, zero-add}
use Rattle.std.proofs.lemmas.List.Sums.{sum_by-append, count_by-le-length}
use Rattle.fluid_types.specs.Ledger.{Ledger}
use Rattle.fluid_rules.specs.Past.{Entry}
use Rattle.fluid_rules.specs.Counted.{is_counted, counted}

pub counted-none : counted [] ≡ 0
unfolding counted
counted-none = refl

pub counted-push : (l : Ledger) (entry : Entry) → counted (l ++ entry ∷ []) ≡ counted l + cond (is_counted entry.0) 1 0
unfolding counted
counted-push l entry =
    sum_by-append (λ e. cond (is_counted e.0) 1 0) l (entry ∷ [])
    ∙ ap (λ n. counted l + n) (zero-add (cond (is_counted entry.0) 1 0))

pub counted-le_length : (l : Ledger) → counted l ≤ length l
unfolding counted
counted-le_length l = count_by-le-length (λ entry. is_counted entry.0) l
