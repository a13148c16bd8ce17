-- What a search of entries in order by key ends at, and what their map has there.
use Rattle.std.proofs.Common.{◌≡◌, ℕ, zero, suc, ◌+◌, ◌<◌, ◌≤◌, Bool, true, false, not, T, IsTrue, List, [], ◌∷◌, ◌++◌, length, get_or, set, take, drop, map, Some, None, Result, Ok, Err, IfOk, IfErr, refl, sym, ap, subst, ◌∙◌, arith}
use Rattle.std.proofs.lemmas.List.{length-map}
use Rattle.std.specs.List.{insert, remove, AllWithin}
use Rattle.std.specs.List.Sorted.{IsSearchInRange, IsBinarySearchResult, IsSortedBy}
use Rattle.std.specs.Ordering.{is_lt, eq_by_cmp}
use Rattle.std.specs.declared.cmp.Ordering.TheVariants.{Less, Greater}
use Rattle.std.specs.FinMap as finite
use Rattle.std.specs.FinMap.{get-from_sorted, from_sorted}
use Rattle.std.specs.FinMap.Entries.{put, where_key, is_sorted, is_sorted-put, is_sorted-where_key}
use Rattle.std.proofs.lemmas.List.Sorted.{searchable_from_sorted}
use Rattle.fluid_table.specs.Table.{byte_order}
use Rattle.fluid_table.specs.Keyed.{pairs_of, IsInOrder, table_of, IsAt, IsGap}
use Rattle.fluid_table.proofs.Ordered.{rises, turned, find_at, find_gap, put_at, put_gap, where_at, where_none, Parts}
use Rattle.fluid_table.proofs.Places.{byte_order_total, byte_order-IsAntisymmetric, holds, is_true}
use Rattle.fluid_table.proofs.Maps.{insert-from_sorted, remove-from_sorted}

-- ---- a list and the list of what a function makes of each element

module _ {A B : Type 0} (f : A → B) where
  read_mapped : (xs : List A) (i : ℕ) (a : A) (b : B) → i < length xs → get_or (map f xs) i b ≡ f (get_or xs i a)
  read_mapped [] i a b lt = absurd (omega arith)
  read_mapped (x ∷ xs) zero a b lt = refl
  read_mapped (x ∷ xs) (suc i) a b lt = read_mapped xs i a b (omega arith)

  set_mapped : (xs : List A) (i : ℕ) (a : A) → map f (set xs i a) ≡ set (map f xs) i (f a)
  set_mapped [] i a = refl
  set_mapped (x ∷ xs) zero a = refl
  set_mapped (x ∷ xs) (suc i) a = ap (λ rest. f x ∷ rest) (set_mapped xs i a)

  insert_mapped : (xs : List A) (i : ℕ) (a : A) → map f (insert xs i a) ≡ insert (map f xs) i (f a)
  insert_mapped [] zero a = refl
  insert_mapped [] (suc i) a = refl
  insert_mapped (x ∷ xs) zero a = refl
  insert_mapped (x ∷ xs) (suc i) a = ap (λ rest. f x ∷ rest) (insert_mapped xs i a)

  remove_mapped : (xs : List A) (i : ℕ) → map f (remove xs i) ≡ remove (map f xs) i
  remove_mapped [] zero = refl
  remove_mapped [] (suc i) = refl
  remove_mapped (x ∷ xs) zero = refl
  remove_mapped (x ∷ xs) (suc i) = ap (λ rest. f x ∷ rest) (remove_mapped xs i)

module _ {E X : Type 0} (key : E → List ℕ) (value : E → X) where
  abbrev pair : E → List ℕ × X
  pair e = (key e, value e)

  -- entries below a key up to a place and above it from there on, seen as pairs
  parts_of : (wanted : List ℕ) (at : ℕ) (es : List E) → at ≤ length es → AllWithin (λ e. byte_order (key e) wanted ≡ Less) es 0 at → AllWithin (λ e. byte_order (key e) wanted ≡ Greater) es at (length es)
      → Parts byte_order_total wanted (pairs_of key value es) at
  parts_of wanted at [] le_end before after = (λ j d lt. absurd (omega arith), λ j d le lt. absurd (omega arith))
  parts_of wanted at (e ∷ es) le_end before after = (
    λ j d lt. subst (λ p. byte_order p.0 wanted ≡ Less) (sym (read_mapped pair (e ∷ es) j e d (omega (arith, lt, le_end)))) (before j e (omega arith) lt),
    λ j d le lt. subst (λ p. byte_order p.0 wanted ≡ Greater) (sym (read_mapped pair (e ∷ es) j e d (omega (arith, lt, length-map (e ∷ es) pair)))) (after j e le (omega (arith, lt, length-map (e ∷ es) pair))),
  )

  module _ (es : List E) (in_order : IsInOrder key value es) (wanted : List ℕ) where
    h : T (is_sorted byte_order (pairs_of key value es))
    h = holds _ in_order

    rising : (i j : ℕ) (d : E) → i < j → j < length es → byte_order (key (get_or es i d)) (key (get_or es j d)) ≡ Less
    rising i j d lt high =
        let left = read_mapped pair es i d (pair d) (omega arith) in
        let right = read_mapped pair es j d (pair d) high in
        subst (λ p. byte_order p (key (get_or es j d)) ≡ Less) (ap (λ p. p.0) left)
        (subst (λ p. byte_order (get_or (pairs_of key value es) i (pair d)).0 p ≡ Less) (ap (λ p. p.0) right)
        (rises byte_order_total (pairs_of key value es) i j (pair d) h lt (omega (arith, length-map es pair))))

    searchable : IsSortedBy (λ a b. is_lt (byte_order (key a) (key b))) es
    searchable k d low high = ap is_lt (turned byte_order_total (key (get_or es k d)) (key (get_or es (k + 1) d)) Less (rising k (k + 1) d (omega arith) high))

    -- a binary search by key ends at the key, or at the gap for it
    pub searched : (r : Result ℕ ℕ) → IsSearchInRange r (length es) → IsBinarySearchResult (λ e. byte_order (key e) wanted) es r → IfOk r (IsAt key es wanted) × IfErr r (IsGap key es wanted)
    searched (Ok at) in_range equal = (record { in_range = in_range; has_key = λ d. byte_order-IsAntisymmetric _ wanted (equal d) }, tt)
    searched (Err at) in_range parted =
        let parts = parted (searchable_from_sorted byte_order_total key es wanted searchable) in
        (tt, record { in_range = in_range; before = parts.0; after = parts.1 })

    module _ (at : ℕ) (is : IsAt key es wanted at) where
      inside : at < length (pairs_of key value es)
      inside = omega (arith, is.in_range, length-map es pair)

      read : (d : E) → get_or (pairs_of key value es) at (pair d) ≡ pair (get_or es at d)
      read d = read_mapped pair es at d (pair d) is.in_range

      has_key : (d : E) → (get_or (pairs_of key value es) at (pair d)).0 ≡ wanted
      has_key d = ap (λ p. p.0) (read d) ∙ is.has_key d

      pub get_there : (d : E) → finite.get (table_of key value es) wanted ≡ Some (value (get_or es at d))
      get_there d =
          get-from_sorted byte_order (pairs_of key value es) wanted h ∙ find_at byte_order_total wanted (pairs_of key value es) at (pair d) h inside (has_key d) ∙ ap (λ p. Some p.1) (read d)

      -- what was read there has the key, and its value is the one under the key
      pub key_read : (e : E) → e ≡ get_or es at e → key e ≡ wanted
      key_read e read = ap key read ∙ is.has_key e

      pub value_read : (e : E) → e ≡ get_or es at e → finite.get (table_of key value es) wanted ≡ Some (value e)
      value_read e read = get_there e ∙ ap (λ d. Some (value d)) (sym read)

      set_there : (e : E) → key e ≡ wanted → put byte_order wanted (value e) (pairs_of key value es) ≡ pairs_of key value (set es at e)
      set_there e same =
          put_at byte_order_total wanted (value e) (pairs_of key value es) at (pair e) h inside (has_key e)
          ∙ ap (λ k. set (pairs_of key value es) at (k, value e)) (sym same) ∙ sym (set_mapped pair es at e)

      pub insert_there : (e : E) → key e ≡ wanted → table_of key value (set es at e) ≡ finite.insert (table_of key value es) wanted (value e)
      insert_there e same = sym (insert-from_sorted byte_order_total (pairs_of key value es) h wanted (value e) ∙ ap from_sorted (set_there e same))

      pub in_order_set : (e : E) → key e ≡ wanted → IsInOrder key value (set es at e)
      in_order_set e same =
          is_true _ (subst (λ l. T (is_sorted byte_order l)) (set_there e same) (is_sorted-put byte_order byte_order_total wanted (value e) (pairs_of key value es) h))

      others_there : (d : E) → where_key byte_order (λ x. not (eq_by_cmp byte_order wanted x)) (pairs_of key value es) ≡ pairs_of key value (remove es at)
      others_there d = where_at byte_order_total wanted (pairs_of key value es) at (pair d) h inside (has_key d) ∙ sym (remove_mapped pair es at)

      pub remove_there : (d : E) → table_of key value (remove es at) ≡ finite.remove (table_of key value es) wanted
      remove_there d =
          sym (remove-from_sorted byte_order_total (pairs_of key value es) h wanted byte_order-IsAntisymmetric ∙ ap from_sorted (others_there d))

      pub in_order_removed : (d : E) → IsInOrder key value (remove es at)
      in_order_removed d =
          is_true _ (subst (λ l. T (is_sorted byte_order l)) (others_there d) (is_sorted-where_key byte_order (λ x. not (eq_by_cmp byte_order wanted x)) (pairs_of key value es) h))

    module _ (at : ℕ) (gap : IsGap key es wanted at) where
      parted : Parts byte_order_total wanted (pairs_of key value es) at
      parted = parts_of wanted at es gap.in_range gap.before gap.after

      missing : finite.Entries.find byte_order wanted (pairs_of key value es) ≡ None
      missing = find_gap byte_order_total wanted (pairs_of key value es) at parted

      pub get_gap : finite.get (table_of key value es) wanted ≡ None
      get_gap = get-from_sorted byte_order (pairs_of key value es) wanted h ∙ missing

      insert_is : (e : E) → key e ≡ wanted → put byte_order wanted (value e) (pairs_of key value es) ≡ pairs_of key value (insert es at e)
      insert_is e same =
          put_gap byte_order_total wanted (value e) (pairs_of key value es) at (omega (arith, gap.in_range, length-map es pair)) parted
          ∙ ap (λ k. insert (pairs_of key value es) at (k, value e)) (sym same) ∙ sym (insert_mapped pair es at e)

      pub insert_gap : (e : E) → key e ≡ wanted → table_of key value (insert es at e) ≡ finite.insert (table_of key value es) wanted (value e)
      insert_gap e same = sym (insert-from_sorted byte_order_total (pairs_of key value es) h wanted (value e) ∙ ap from_sorted (insert_is e same))

      pub in_order_inserted : (e : E) → key e ≡ wanted → IsInOrder key value (insert es at e)
      in_order_inserted e same =
          is_true _ (subst (λ l. T (is_sorted byte_order l)) (insert_is e same) (is_sorted-put byte_order byte_order_total wanted (value e) (pairs_of key value es) h))

      pub remove_gap : table_of key value es ≡ finite.remove (table_of key value es) wanted
      remove_gap =
          sym (remove-from_sorted byte_order_total (pairs_of key value es) h wanted byte_order-IsAntisymmetric ∙ ap from_sorted (where_none byte_order_total wanted (pairs_of key value es) missing))
