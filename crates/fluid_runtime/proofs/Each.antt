-- A table whose values are what a function makes of another table's.
use Rattle.std.proofs.Common.{◌≡◌, ℕ, Bool, true, false, cond, ◌&&◌, T, List, [], ◌∷◌, map, Option, Some, None, option_map, bytes_eq, refl, sym, ap, ap₂, subst, ◌∙◌}
use Rattle.std.specs.Ordering.{is_lt, eq_by_cmp}
use Rattle.std.specs.FinMap.{empty, entries, get, insert, entries_sorted, entries-from_sorted, get-entries, get-from_sorted, get-empty}
use Rattle.std.specs.FinMap.Entries.{find, below_all, is_sorted}
use Rattle.std.proofs.lemmas.Slice.Eq.{bytes_eq-Decides}
use Rattle.fluid_table.specs.Table.{byte_order, Values}
use Rattle.fluid_table.proofs.Places.{get_inserted, same_values}
use Rattle.fluid_runtime.specs.Slots.{each}

module _ {X Y : Type 0} (f : X → Y) where
  abbrev pub mapped : List (List ℕ × X) → List (List ℕ × Y)
  mapped es = map (λ e. (e.0, f e.1)) es

  below_mapped : (k : List ℕ) (es : List (List ℕ × X)) → below_all byte_order k (mapped es) ≡ below_all byte_order k es
  below_mapped k [] = refl
  below_mapped k (e ∷ es) = ap (λ b. is_lt (byte_order k e.0) && b) (below_mapped k es)

  sorted_mapped : (es : List (List ℕ × X)) → is_sorted byte_order (mapped es) ≡ is_sorted byte_order es
  sorted_mapped [] = refl
  sorted_mapped (e ∷ es) = ap₂ (λ a b. a && b) (below_mapped e.0 es) (sorted_mapped es)

  moved : (b : Bool) (v : X) (before : Option X) → cond b (Some (f v)) (option_map f before) ≡ option_map f (cond b (Some v) before)
  moved true v before = refl
  moved false v before = refl

  find_mapped : (q : List ℕ) (es : List (List ℕ × X)) → find byte_order q (mapped es) ≡ option_map f (find byte_order q es)
  find_mapped q [] = refl
  find_mapped q (e ∷ es) =
      ap (cond (eq_by_cmp byte_order q e.0) (Some (f e.1))) (find_mapped q es) ∙ moved (eq_by_cmp byte_order q e.0) e.1 (find byte_order q es)

  pub in_order_each : (m : Values X) → T (is_sorted byte_order (mapped (entries m)))
  in_order_each m = subst T (sym (sorted_mapped (entries m))) (entries_sorted m)

  pub entries_each : (m : Values X) → entries (each f m) ≡ mapped (entries m)
  entries_each m = entries-from_sorted byte_order (mapped (entries m)) (in_order_each m)

  pub get_each : (m : Values X) (q : List ℕ) → get (each f m) q ≡ option_map f (get m q)
  get_each m q =
      get-from_sorted byte_order (mapped (entries m)) q (in_order_each m) ∙ find_mapped q (entries m) ∙ ap (option_map f) (sym (get-entries m q))

  pub each_inserted : (m : Values X) (k : List ℕ) (v : X) → each f (insert m k v) ≡ insert (each f m) k (f v)
  each_inserted m k v =
      same_values _ _ (λ q.
      get_each (insert m k v) q
      ∙ ap (option_map f) (get_inserted m k v q)
      ∙ sym (moved (bytes_eq q k) v (get m q))
      ∙ ap (cond (bytes_eq q k) (Some (f v))) (sym (get_each m q)) ∙ sym (get_inserted (each f m) k (f v) q))

  pub each_empty : each f empty ≡ empty
  each_empty = same_values _ _ (λ q. get_each empty q ∙ ap (option_map f) (get-empty byte_order q) ∙ sym (get-empty byte_order q))

  -- a value that is found is found as the function makes it
  pub get_found : (m : Values X) (q : List ℕ) (v : X) → get m q ≡ Some v → get (each f m) q ≡ Some (f v)
  get_found m q v is = get_each m q ∙ ap (option_map f) is

  pub get_absent : (m : Values X) (q : List ℕ) → get m q ≡ None → get (each f m) q ≡ None
  get_absent m q is = get_each m q ∙ ap (option_map f) is

-- two functions that make the same of each value that is found
alike_found : {X Y : Type 0} (f g : X → Y) (found : Option X) → ((x : X) → found ≡ Some x → f x ≡ g x) → option_map f found ≡ option_map g found
alike_found f g None same = refl
alike_found f g (Some x) same = ap Some (same x refl)

pub each_alike : {X Y : Type 0} (f g : X → Y) (m : Values X) → ((q : List ℕ) (x : X) → get m q ≡ Some x → f x ≡ g x) → each f m ≡ each g m
each_alike f g m same = same_values _ _ (λ q. get_each f m q ∙ alike_found f g (get m q) (same q) ∙ sym (get_each g m q))

composed : {X Y Z : Type 0} (g : Y → Z) (f : X → Y) (found : Option X) → option_map g (option_map f found) ≡ option_map (λ x. g (f x)) found
composed g f None = refl
composed g f (Some x) = refl

pub each_each : {X Y Z : Type 0} (g : Y → Z) (f : X → Y) (m : Values X) → each g (each f m) ≡ each (λ x. g (f x)) m
each_each g f m = same_values _ _ (λ q. get_each g (each f m) q ∙ ap (option_map g) (get_each f m q) ∙ composed g f (get m q) ∙ sym (get_each (λ x. g (f x)) m q))

-- to put a value where it stands changes nothing
pub insert_same : {X : Type 0} (m : Values X) (k : List ℕ) (v : X) → get m k ≡ Some v → insert m k v ≡ m
insert_same m k v is = same_values _ _ (λ q. get_inserted m k v q ∙ stands q (bytes_eq q k) refl)
  where
    stands : (q : List ℕ) (b : Bool) → bytes_eq q k ≡ b → cond b (Some v) (get m q) ≡ get m q
    stands q true at = sym is ∙ ap (get m) (sym ((bytes_eq-Decides q k).0 at))
    stands q false at = refl
