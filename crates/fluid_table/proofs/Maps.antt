-- The map of entries that are in order: what is found in it, and what an edit of it is.
use Rattle.std.proofs.Common.{◌≡◌, Bool, cond, not, T, List, [], length, None, Option, refl, sym, ap, ◌∙◌}
use Rattle.std.specs.Ordering.{is_eq, ordering_reverse, eq_by_cmp}
use Rattle.std.specs.Cmp.{IsTotalOrder, alike_right}
use Rattle.std.specs.declared.cmp.Ordering.{Ordering}
use Rattle.std.specs.declared.cmp.Ordering.TheVariants.{Less, Equal, Greater}
use Rattle.std.specs.FinMap as map
use Rattle.std.specs.FinMap.{IsAntisymmetric, entries-insert, entries-from_sorted, get-from_sorted, get-remove, from_sorted, same_entries_map, same_map, len-entries, empty_of_len}
use Rattle.std.specs.FinMap.Entries.{put, find, where_key, is_sorted, is_sorted-put, is_sorted-where_key, find-where_key}

pub from_sorted_nothing : {K X : Type 0} (R : K → K → Ordering) → from_sorted {X = X} {R = R} [] ≡ map.empty
from_sorted_nothing R = empty_of_len _ (len-entries _ ∙ ap length (entries-from_sorted R [] tt))

-- an entry that is left out is not found, whichever way round the keys are compared
left_out : {A : Type 0} (r : Ordering) (x : Option A) → cond (is_eq (ordering_reverse r)) None x ≡ cond (not (is_eq r)) x None
left_out Less x = refl
left_out Equal x = refl
left_out Greater x = refl

module _ {K X : Type 0} {R : K → K → Ordering} (o : IsTotalOrder R) (es : List (K × X)) (h : T (is_sorted R es)) (k : K) where
  -- to insert is to put the entry in its place
  pub insert-from_sorted : (v : X) → map.insert (from_sorted {R = R} es) k v ≡ from_sorted (put R k v es)
  insert-from_sorted v =
      same_entries_map _ _ (entries-insert o _ k v ∙ ap (put R k v) (entries-from_sorted R es h) ∙ sym (entries-from_sorted R (put R k v es) (is_sorted-put R o k v es h)))

  -- to remove is to keep the entries of other keys
  pub remove-from_sorted : IsAntisymmetric R → map.remove (from_sorted {R = R} es) k ≡ from_sorted (where_key R (λ x. not (eq_by_cmp R k x)) es)
  remove-from_sorted same =
      let others : K → Bool = λ x. not (eq_by_cmp R k x) in
      same_map o same _ _ (λ q.
      get-remove o _ k q
      ∙ ap (cond (eq_by_cmp R q k) None) (get-from_sorted R es q h)
      ∙ ap (λ r. cond (is_eq r) None (find R q es)) (o.antisymm q k)
      ∙ left_out (R k q) (find R q es)
      ∙ sym (find-where_key R others q (λ x e. ap (λ r. not (is_eq r)) (sym (alike_right o q x k e))) es)
      ∙ sym (get-from_sorted R (where_key R others es) q (is_sorted-where_key R others es h)))
