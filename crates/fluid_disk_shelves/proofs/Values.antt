-- The map of the values that a function has for those of another map.
use Rattle.std.proofs.Common.{◌≡◌, ℕ, Bool, true, false, cond, T, List, [], ◌∷◌, ◌++◌, Option, Some, None, option_map, option_and_then, bytes_eq, refl, sym, ap, ◌∙◌}
use Rattle.std.specs.Option.{option_to_list}
use Rattle.std.specs.Ordering.{is_eq, eq_by_cmp}
use Rattle.std.specs.declared.cmp.Ordering.{Ordering}
use Rattle.std.specs.declared.cmp.Ordering.TheVariants.{Less, Equal, Greater}
use Rattle.std.specs.FinMap.{FinMap, get, insert, remove, entries, entries_sorted, get-entries, get-from_sorted, get-empty, empty}
use Rattle.std.specs.FinMap.Entries.{find, below_all, is_sorted}
use Rattle.std.proofs.lemmas.Bool.{false≢true}
use Rattle.std.proofs.lemmas.Slice.Eq.{bytes_eq-Decides}
use Rattle.fluid_log.specs.Shelving.{byte_order}
use Rattle.fluid_log.specs.Places.{entries_where, values_where}
use Rattle.fluid_table.proofs.Ordered.{both, first, second, find_above}
use Rattle.fluid_table.proofs.Places.{byte_order_total, byte_order-IsAntisymmetric, get_inserted, get_removed, same_values}

-- names that tie are one
tied_is : (x y : List ℕ) → eq_by_cmp byte_order x y ≡ true → x ≡ y
tied_is x y is = byte_order-IsAntisymmetric x y (equal (byte_order x y) is)
  where
    equal : (o : Ordering) → is_eq o ≡ true → o ≡ Equal
    equal Less e = absurd (false≢true e)
    equal Equal e = refl
    equal Greater e = absurd (false≢true e)

module _ {X Y : Type 0} (value : X → Option Y) where
  -- ---- what is found among the entries that count

  abbrev prefix : List ℕ → Option Y → List (List ℕ × Y)
  prefix name found = option_to_list (option_map (λ y. (name, y)) found)

  below_where : (x : List ℕ) (es : List (List ℕ × X)) → T (below_all byte_order x es) → T (below_all byte_order x (entries_where value es))
  below_where x [] h = tt
  below_where x (e ∷ es) h =
      elim (value e.1) as (λ found. T (below_all byte_order x (prefix e.0 found ++ entries_where value es))) [
        | None ↦ below_where x es (second _ _ h)
        | Some y ↦ both _ _ (first _ _ h) (below_where x es (second _ _ h))
      ]

  sorted_where : (es : List (List ℕ × X)) → T (is_sorted byte_order es) → T (is_sorted byte_order (entries_where value es))
  sorted_where [] h = tt
  sorted_where (e ∷ es) h =
      elim (value e.1) as (λ found. T (is_sorted byte_order (prefix e.0 found ++ entries_where value es))) [
        | None ↦ sorted_where es (second _ _ h)
        | Some y ↦ both _ _ (below_where e.0 es (first _ _ h)) (sorted_where es (second _ _ h))
      ]

  -- a name that ties with one below all entries isn't among them
  not_behind : (q x : List ℕ) (es : List (List ℕ × X)) → eq_by_cmp byte_order q x ≡ true → T (below_all byte_order x es) → find byte_order q es ≡ None
  not_behind q x es is h = ap (λ k. find byte_order k es) (tied_is q x is) ∙ find_above byte_order_total x es h

  find_where : (q : List ℕ) (es : List (List ℕ × X)) → T (is_sorted byte_order es) → find byte_order q (entries_where value es) ≡ option_and_then value (find byte_order q es)
  find_where q [] h = refl
  find_where q (e ∷ es) h =
      let others = find_where q es (second _ _ h) in
      let rest = find byte_order q es in
      elim (value e.1) as (λ found. value e.1 ≡ found → find byte_order q (prefix e.0 found ++ entries_where value es) ≡ option_and_then value (cond (eq_by_cmp byte_order q e.0) (Some e.1) rest)) [
        | None ↦ λ none. elim (eq_by_cmp byte_order q e.0) as (λ b. eq_by_cmp byte_order q e.0 ≡ b → find byte_order q (entries_where value es) ≡ option_and_then value (cond b (Some e.1) rest)) [
          | true ↦ λ tie. others ∙ ap (option_and_then value) (not_behind q e.0 es tie (first _ _ h)) ∙ sym none
          | false ↦ λ tie. others
        ] refl
        | Some y ↦ λ some. elim (eq_by_cmp byte_order q e.0) as (λ b. cond b (Some y) (find byte_order q (entries_where value es)) ≡ option_and_then value (cond b (Some e.1) rest)) [
          | true ↦ sym some
          | false ↦ others
        ]
      ] refl

  pub get-values_where : (m : FinMap byte_order X) (q : List ℕ) → get (values_where value m) q ≡ option_and_then value (get m q)
  get-values_where m q =
      get-from_sorted byte_order (entries_where value (entries m)) q (sorted_where (entries m) (entries_sorted m))
      ∙ find_where q (entries m) (entries_sorted m)
      ∙ ap (option_and_then value) (sym (get-entries m q))

  -- ---- what an edit makes of the map

  then_cond : (b : Bool) (v : X) (before : Option X) → option_and_then value (cond b (Some v) before) ≡ cond b (value v) (option_and_then value before)
  then_cond true v before = refl
  then_cond false v before = refl

  at_insert : (m : FinMap byte_order X) (k : List ℕ) (v : X) (q : List ℕ) → get (values_where value (insert m k v)) q ≡ cond (bytes_eq q k) (value v) (get (values_where value m) q)
  at_insert m k v q =
      get-values_where (insert m k v) q
      ∙ ap (option_and_then value) (get_inserted m k v q)
      ∙ then_cond (bytes_eq q k) v (get m q)
      ∙ ap (cond (bytes_eq q k) (value v)) (sym (get-values_where m q))

  -- a value that counts is put under the name
  pub values_where-insert : (m : FinMap byte_order X) (k : List ℕ) (v : X) (y : Y) → value v ≡ Some y → values_where value (insert m k v) ≡ insert (values_where value m) k y
  values_where-insert m k v y is =
      same_values _ _ (λ q.
      at_insert m k v q ∙ ap (λ found. cond (bytes_eq q k) found (get (values_where value m) q)) is ∙ sym (get_inserted (values_where value m) k y q))

  -- with one that doesn't count there is none under the name
  pub values_where-remove : (m : FinMap byte_order X) (k : List ℕ) (v : X) → value v ≡ None → values_where value (insert m k v) ≡ remove (values_where value m) k
  values_where-remove m k v is =
      same_values _ _ (λ q.
      at_insert m k v q ∙ ap (λ found. cond (bytes_eq q k) found (get (values_where value m) q)) is ∙ sym (get_removed (values_where value m) k q))

  kept_at : (m : FinMap byte_order X) (k : List ℕ) (v w : X) (q : List ℕ) → get m k ≡ Some w → value v ≡ value w → cond (bytes_eq q k) (value v) (get (values_where value m) q) ≡ get (values_where value m) q
  kept_at m k v w q there same =
      elim (bytes_eq q k) as (λ b. bytes_eq q k ≡ b → cond b (value v) (get (values_where value m) q) ≡ get (values_where value m) q) [
        | true ↦ λ is.
            same ∙ sym (ap (option_and_then value) there) ∙ ap (λ (n : List ℕ). option_and_then value (get m n)) (sym ((bytes_eq-Decides q k).0 is)) ∙ sym (get-values_where m q)
        | false ↦ λ is. refl
      ] refl

  -- with one that counts for the same nothing changes
  pub values_where-kept : (m : FinMap byte_order X) (k : List ℕ) (v w : X) → get m k ≡ Some w → value v ≡ value w → values_where value (insert m k v) ≡ values_where value m
  values_where-kept m k v w there same = same_values _ _ (λ q. at_insert m k v q ∙ kept_at m k v w q there same)

  -- of no values there are none
  pub values_where-empty : values_where value empty ≡ empty
  values_where-empty = same_values _ _ (λ q. get-values_where empty q ∙ ap (option_and_then value) (get-empty byte_order q) ∙ sym (get-empty byte_order q))

none_both : {X : Type 0} (b : Bool) (found : Option X) → found ≡ None → cond b None found ≡ None
none_both true found is = refl
none_both false found is = is

-- nothing is removed where there is nothing
pub remove-empty : {X : Type 0} (k : List ℕ) → remove (empty {X = X} {R = byte_order}) k ≡ empty
remove-empty k = same_values _ _ (λ q. get_removed empty k q ∙ none_both (bytes_eq q k) (get empty q) (get-empty byte_order q) ∙ sym (get-empty byte_order q))
