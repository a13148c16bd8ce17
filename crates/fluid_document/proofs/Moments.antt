-- Moments that are taken out of rows and put back.
use Rattle.std.proofs.Common.{◌≡◌, ℕ, Bool, true, false, cond, T, ◌&&◌, IsTrue, List, [], ◌∷◌, map, get_or, Option, Some, None, option_map, bytes_eq, All, refl, sym, ap, ap₂, subst, ◌∙◌}
use Rattle.std.specs.Ordering.{is_lt, eq_by_cmp}
use Rattle.std.specs.FinMap.{get, entries, entries_sorted, get-entries, get-from_entries, same_map}
use Rattle.std.specs.FinMap.Entries.{below_all, find, is_sorted}
use Rattle.std.proofs.lemmas.List.Elements.{All-from_get_or}
use Rattle.std.proofs.lemmas.Slice.Eq.{bytes_eq-Decides}
use Rattle.fluid_table.proofs.Ordered.{first, second, find_above, find_at}
use Rattle.fluid_clients.specs.declared.table.Row.{Row}
use Rattle.fluid_clients.specs.Table.{byte_order, Rows, change_row}
use Rattle.fluid_clients.proofs.Laws.{byte_order_total, byte_order-IsAntisymmetric}
use Rattle.fluid_ticket.proofs.Ledgers.{tied_back, get_changed}
use Rattle.fluid_checkpoint.specs.Heard.{Moments, moments_of, unheard, without_moments, with_moments}

abbrev Pairs : Type 0
Pairs = List (List ℕ × Row)

-- what holds of each row under its id holds of each entry
pub entries_all : (P : List ℕ × Row → Type 0) (rows : Rows) → ((id : List ℕ) (row : Row) → get rows id ≡ Some row → P (id, row)) → All P (entries rows)
entries_all P rows each = All-from_get_or P (entries rows) nobody (λ i lt. each _ _ (get-entries rows (get_or (entries rows) i nobody).0 ∙ find_at byte_order_total (get_or (entries rows) i nobody).0 (entries rows) i nobody (entries_sorted rows) lt refl))
  where
    nobody : List ℕ × Row
    nobody = ([], record { last = 0; reference = 0; nacked = false; scopes = record { read = false; write = false; summary = false }; heard = 0 })

-- ---- their order

below_moments : (k : List ℕ) (es : Pairs) → below_all byte_order k (map (λ entry. (entry.0, entry.1.heard)) es) ≡ below_all byte_order k es
below_moments k [] = refl
below_moments k (e ∷ es) = ap (λ b. is_lt (byte_order k e.0) && b) (below_moments k es)

sorted_moments : (es : Pairs) → is_sorted byte_order (map (λ entry. (entry.0, entry.1.heard)) es) ≡ is_sorted byte_order es
sorted_moments [] = refl
sorted_moments (e ∷ es) = ap₂ (λ a b. a && b) (below_moments e.0 es) (sorted_moments es)

sorted_in : (rows : Rows) → T (is_sorted byte_order (moments_of rows))
sorted_in rows = subst T (sym (sorted_moments (entries rows))) (entries_sorted rows)

is_true : (b : Bool) → T b → b ≡ true
is_true true h = refl
is_true false h = absurd h

pub moments_sorted : (rows : Rows) → IsTrue (is_sorted byte_order (moments_of rows))
moments_sorted rows = is_true _ (sorted_in rows)

-- ---- the row under an id

hear : Option ℕ → Row → Row
hear None row = row
hear (Some moment) row = record row { heard = moment }

-- the first moment of this list that an id has, where each id has one
twice : (o : Option Row) (f : Row → Row) → option_map (hear None) (option_map f o) ≡ option_map f o
unfolding hear
twice None f = refl
twice (Some row) f = refl

heard_then : ℕ → Row → Row
heard_then moment row = record row { heard = moment }

heard_first : (tie : Bool) (q id : List ℕ) (moment : ℕ) (rows : Rows) (found : Option ℕ) → bytes_eq id q ≡ tie → (id ≡ q → found ≡ None)
    → option_map (hear found) (cond tie (option_map (heard_then moment) (get rows id)) (get rows q)) ≡ option_map (hear (cond tie (Some moment) found)) (get rows q)
unfolding hear heard_then
heard_first true q id moment rows found is none =
    let same : id ≡ q = (bytes_eq-Decides id q).0 is in
    ap (λ f. option_map (hear f) (option_map (heard_then moment) (get rows id))) (none same) ∙ twice (get rows id) (heard_then moment) ∙ ap (λ i. option_map (heard_then moment) (get rows i)) same
heard_first false q id moment rows found is none = refl

get_with : (rows : Rows) (moments : Moments) (q : List ℕ) → T (is_sorted byte_order moments) → get (with_moments rows moments) q ≡ option_map (hear (find byte_order q moments)) (get rows q)
unfolding with_moments hear heard_then
get_with rows [] q sorted = nothing (get rows q)
  where
    nothing : (o : Option Row) → o ≡ option_map (λ row. row) o
    nothing None = refl
    nothing (Some row) = refl
get_with rows ((id, moment) ∷ moments) q sorted =
    get_with (change_row id (heard_then moment) rows) moments q (second _ _ sorted)
    ∙ ap (option_map (hear (find byte_order q moments))) (get_changed rows id q (heard_then moment) (get rows id) refl)
    ∙ heard_first (bytes_eq id q) q id moment rows (find byte_order q moments) refl (λ same. find_above byte_order_total q moments (subst (λ k. T (below_all byte_order k moments)) same (first _ _ sorted)))
    ∙ ap (λ tie. option_map (hear (cond tie (Some moment) (find byte_order q moments))) (get rows q)) (sym (tied_back q id))

find_each : {X : Type 0} (f : Row → X) (q : List ℕ) (es : Pairs) → find byte_order q (map (λ entry. (entry.0, f entry.1)) es) ≡ option_map f (find byte_order q es)
find_each f q [] = refl
find_each f q (e ∷ es) = ap (cond (eq_by_cmp byte_order q e.0) (Some (f e.1))) (find_each f q es) ∙ moved (eq_by_cmp byte_order q e.0)
  where
    moved : (b : Bool) → cond b (Some (f e.1)) (option_map f (find byte_order q es)) ≡ option_map f (cond b (Some e.1) (find byte_order q es))
    moved true = refl
    moved false = refl

put_back : (o : Option Row) → option_map (hear (option_map (λ (row : Row). row.heard) o)) (option_map unheard o) ≡ o
unfolding hear
put_back None = refl
put_back (Some row) = refl

pub moments_put_back : (rows : Rows) → with_moments (without_moments rows) (moments_of rows) ≡ rows
moments_put_back rows =
    same_map byte_order_total byte_order-IsAntisymmetric _ _
    (λ q.
    get_with (without_moments rows) (moments_of rows) q (sorted_in rows)
    ∙ ap (λ o. option_map (hear o) (get (without_moments rows) q)) (find_each (λ row. row.heard) q (entries rows) ∙ ap (option_map (λ (row : Row). row.heard)) (sym (get-entries rows q)))
    ∙ ap (option_map (hear (option_map (λ (row : Row). row.heard) (get rows q))))
    (get-from_entries byte_order_total (map (λ entry. (entry.0, unheard entry.1)) (entries rows)) q ∙ find_each unheard q (entries rows) ∙ ap (option_map unheard) (sym (get-entries rows q)))
    ∙ put_back (get rows q))
