-- The map of entries that are in order.
use Rattle.std.proofs.Common.{◌≡◌, ℕ, Bool, true, false, cond, T, Some, IsTrue, List, [], ◌∷◌, length, refl, sym, ap, subst, ◌∙◌}
use Rattle.std.specs.Map.{lookup}
use Rattle.std.specs.BTreeMap.{insert_entry, is_at}
use Rattle.std.specs.Ordering.{is_eq, match_ordering}
use Rattle.std.specs.Cmp.{IsTotalOrder}
use Rattle.std.specs.Cmp.Lexicographic.{nat_list_cmp_total}
use Rattle.std.specs.declared.cmp.Ordering.TheVariants.{Less, Equal, Greater}
use Rattle.std.specs.FinMap as map
use Rattle.std.specs.FinMap.{IsAntisymmetric, nat_cmp-IsAntisymmetric, slice_cmp-IsAntisymmetric, entries-insert, entries-from_sorted, get-from_sorted, from_sorted, same_entries_map, len-entries, empty_of_len}
use Rattle.std.specs.FinMap.Entries.{by_order, put, find, is_sorted, is_sorted-put}
use Rattle.fluid_store.specs.Held.{byte_order}

pub byte_order_total : IsTotalOrder byte_order
byte_order_total = nat_list_cmp_total

pub byte_order-IsAntisymmetric : IsAntisymmetric byte_order
byte_order-IsAntisymmetric = slice_cmp-IsAntisymmetric nat_cmp-IsAntisymmetric

-- the two ways to say that a test holds
pub holds : (b : Bool) → IsTrue b → T b
holds b is = subst T (sym is) tt

pub is_true : (b : Bool) → T b → IsTrue b
is_true true p = refl
is_true false p = absurd p

abbrev pub Entries : Type 0
Entries = List (List ℕ × List ℕ)

pub from_sorted_nothing : from_sorted {X = List ℕ} {R = byte_order} [] ≡ map.empty
from_sorted_nothing = empty_of_len _ (len-entries _ ∙ ap length (entries-from_sorted byte_order [] tt))

-- a tree map puts an entry where a finite map does
pub put_alike : {X : Type 0} (es : List (List ℕ × X)) (k : List ℕ) (v : X) → insert_entry byte_order es k v ≡ put byte_order k v es
put_alike [] k v = refl
put_alike (e ∷ es) k v =
    elim (byte_order k e.0) as (λ o. match_ordering o ((k, v) ∷ e ∷ es) ((e.0, v) ∷ es) (e ∷ insert_entry byte_order es k v) ≡ by_order o ((k, v) ∷ e ∷ es) ((e.0, v) ∷ es) (e ∷ put byte_order k v es)) [
      | Less ↦ refl
      | Equal ↦ refl
      | Greater ↦ ap (λ l. e ∷ l) (put_alike es k v)
    ]

found_alike : (es : Entries) (k : List ℕ) → lookup (is_at (byte_order k)) es ≡ find byte_order k es
found_alike [] k = refl
found_alike (e ∷ es) k = elim (is_eq (byte_order k e.0)) as (λ b. cond b (Some e.1) (lookup (is_at (byte_order k)) es) ≡ cond b (Some e.1) (find byte_order k es)) [ true ↦ refl | false ↦ found_alike es k ]

module _ (es : Entries) (in_order : IsTrue (is_sorted byte_order es)) where
  h : T (is_sorted byte_order es)
  h = holds _ in_order

  pub length_held : length es ≡ map.len (from_sorted {R = byte_order} es)
  length_held = sym (len-entries _ ∙ ap length (entries-from_sorted byte_order es h))

  pub held_at : (k : List ℕ) → lookup (is_at (byte_order k)) es ≡ map.get (from_sorted {R = byte_order} es) k
  held_at k = found_alike es k ∙ sym (get-from_sorted byte_order es k h)

  module _ (k v : List ℕ) where
    pub in_order_still : IsTrue (is_sorted byte_order (insert_entry byte_order es k v))
    in_order_still = subst (λ l. IsTrue (is_sorted byte_order l)) (sym (put_alike es k v)) (is_true _ (is_sorted-put byte_order byte_order_total k v es h))

    pub held_more : from_sorted {R = byte_order} (insert_entry byte_order es k v) ≡ map.insert (from_sorted {R = byte_order} es) k v
    held_more =
        ap (from_sorted {R = byte_order}) (put_alike es k v)
        ∙ sym (same_entries_map _ _ (entries-insert byte_order_total _ k v ∙ ap (put byte_order k v) (entries-from_sorted byte_order es h)
        ∙ sym (entries-from_sorted byte_order (put byte_order k v es) (is_sorted-put byte_order byte_order_total k v es h))))
