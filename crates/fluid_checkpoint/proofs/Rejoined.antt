-- Moments that are taken out of rows and written down again.
use Rattle.std.proofs.Common.{◌≡◌, ℕ, Bool, true, false, cond, T, List, [], ◌∷◌, map, Option, Some, None, option_map, refl, sym, ap, subst, ◌∙◌}
use Rattle.std.specs.Ordering.{is_eq, eq_by_cmp}
use Rattle.std.specs.declared.cmp.Ordering.{Ordering}
use Rattle.std.specs.declared.cmp.Ordering.TheVariants.{Less, Equal, Greater}
use Rattle.std.specs.FinMap.{get, entries, entries_sorted, get-entries, get-insert, get-from_entries, find, is_sorted}
use Rattle.std.specs.FinMap.Entries.{below_all, find_tied}
use Rattle.fluid_table.specs.Table.{byte_order}
use Rattle.fluid_table.proofs.Ordered.{first, second, less}
use Rattle.fluid_table.proofs.Places.{byte_order_total, byte_order-IsAntisymmetric, same_values}
use Rattle.fluid_clients.specs.declared.table.Row.{Row}
use Rattle.fluid_clients.specs.Table.{Rows, change_row}
use Rattle.fluid_checkpoint.specs.Heard.{unheard, without_moments, with_moments}
use Rattle.fluid_checkpoint.specs.Laws.{MomentsAreJoined}

abbrev Entries : Type 0
Entries = List (List ℕ × Row)

-- ---- one moment

equal : (r : Ordering) → is_eq r ≡ true → r ≡ Equal
equal Less p = cc
equal Equal p = refl
equal Greater p = cc

abbrev at_moment : ℕ → Row → Row
at_moment moment row = record row { heard = moment }

tied : (rows : Rows) (q id : List ℕ) → eq_by_cmp byte_order q id ≡ true → get rows id ≡ get rows q
tied rows q id same =
    get-entries rows id ∙ find_tied byte_order byte_order_total q id (equal (byte_order q id) same) (entries rows) ∙ sym (get-entries rows q)

changed : (rows : Rows) (id q : List ℕ) (f : Row → Row) (own : Option Row) (same : Bool) → get rows id ≡ own → eq_by_cmp byte_order q id ≡ same → (same ≡ true → own ≡ get rows q) →
    get (change_row id f rows) q ≡ cond same (option_map f (get rows q)) (get rows q)
changed rows id q f None false own_is same_is ties = rw own_is refl
changed rows id q f None true own_is same_is ties = rw (own_is, sym (ties refl)) refl
changed rows id q f (Some row) false own_is same_is ties = rw (own_is, get-insert byte_order_total rows id (f row) q, same_is) refl
changed rows id q f (Some row) true own_is same_is ties = rw (own_is, get-insert byte_order_total rows id (f row) q, same_is, sym (ties refl)) refl

-- ---- all of them

-- a row with the moments that these entries have for its id
abbrev heard_at : Entries → List ℕ → Row → Row
heard_at [] q row = row
heard_at (e ∷ es) q row = heard_at es q (cond (eq_by_cmp byte_order q e.0) (at_moment e.1.heard row) row)

on_row : (es : Entries) (e : List ℕ × Row) (q : List ℕ) (o : Option Row) (same : Bool) →
    option_map (heard_at es q) (cond same (option_map (at_moment e.1.heard) o) o) ≡ option_map (λ row. heard_at es q (cond same (at_moment e.1.heard row) row)) o
on_row es e q None true = refl
on_row es e q None false = refl
on_row es e q (Some row) true = refl
on_row es e q (Some row) false = refl

abbrev moment_of : List ℕ × Row → List ℕ × ℕ
moment_of e = (e.0, e.1.heard)

get_heard : (es : Entries) (rows : Rows) (q : List ℕ) → get (with_moments rows (map moment_of es)) q ≡ option_map (heard_at es q) (get rows q)
unfolding with_moments
get_heard [] rows q = itself (get rows q)
  where
    itself : (o : Option Row) → o ≡ option_map (λ row. row) o
    itself None = refl
    itself (Some row) = refl
get_heard (e ∷ es) rows q =
    get_heard es (change_row e.0 (at_moment e.1.heard) rows) q
    ∙ ap (option_map (heard_at es q)) (changed rows e.0 q (at_moment e.1.heard) (get rows e.0) (eq_by_cmp byte_order q e.0) refl refl (tied rows q e.0))
    ∙ on_row es e q (get rows q) (eq_by_cmp byte_order q e.0)

-- ---- and those that were taken out

abbrev bare : List ℕ × Row → List ℕ × Row
bare e = (e.0, unheard e.1)

find_bare : (es : Entries) (q : List ℕ) → find byte_order q (map bare es) ≡ option_map unheard (find byte_order q es)
find_bare [] q = refl
find_bare (e ∷ es) q = step (eq_by_cmp byte_order q e.0) (find_bare es q)
  where
    step : (same : Bool) → find byte_order q (map bare es) ≡ option_map unheard (find byte_order q es) →
        cond same (Some (unheard e.1)) (find byte_order q (map bare es)) ≡ option_map unheard (cond same (Some e.1) (find byte_order q es))
    step true rest = refl
    step false rest = rest

-- an id below all of these has no moment there
none_there : (es : Entries) (q : List ℕ) (row : Row) → T (below_all byte_order q es) → heard_at es q row ≡ row
none_there [] q row h = refl
none_there (e ∷ es) q row h = rw (less (byte_order q e.0) (first _ _ h)) (none_there es q row (second _ _ h))

same_below : (es : Entries) (q id : List ℕ) → id ≡ q → T (below_all byte_order id es) → T (below_all byte_order q es)
same_below es q id is h = subst (λ k. T (below_all byte_order k es)) is h

heard_again : (es : Entries) (q : List ℕ) → T (is_sorted byte_order es) → option_map (heard_at es q) (option_map unheard (find byte_order q es)) ≡ find byte_order q es
heard_again [] q h = refl
heard_again (e ∷ es) q h = step (eq_by_cmp byte_order q e.0) refl (heard_again es q (second _ _ h))
  where
    step : (same : Bool) → eq_by_cmp byte_order q e.0 ≡ same → option_map (heard_at es q) (option_map unheard (find byte_order q es)) ≡ find byte_order q es →
        option_map (λ row. heard_at es q (cond same (at_moment e.1.heard row) row)) (option_map unheard (cond same (Some e.1) (find byte_order q es))) ≡ cond same (Some e.1) (find byte_order q es)
    step true is rest = ap Some (none_there es q e.1 (same_below es q e.0 (sym (byte_order-IsAntisymmetric q e.0 (equal (byte_order q e.0) is))) (first _ _ h)))
    step false is rest = rest

pub moments_are_joined : MomentsAreJoined
moments_are_joined rows =
    same_values _ _ (λ q.
    get_heard (entries rows) (without_moments rows) q
    ∙ ap (option_map (heard_at (entries rows) q)) (get-from_entries byte_order_total (map bare (entries rows)) q ∙ find_bare (entries rows) q)
    ∙ heard_again (entries rows) q (entries_sorted rows)
    ∙ sym (get-entries rows q))
