-- A list in which a function was put to each element before a place.
use Rattle.std.proofs.Common.{Bool, true, false, cond, Option, Some, None, option_map, min, T, ◌&&◌, IsTrue, ◌++◌, take, drop, ap₂, sym, ◌≡◌, ℕ, zero, suc, ◌+◌, ◌<◌, ◌≤◌, List, [], ◌∷◌, length, map, get_or, set, refl, ap, subst, ◌∙◌, arith}
use Rattle.std.specs.Ordering.{is_lt, eq_by_cmp}
use Rattle.std.proofs.lemmas.Option.{none-some, same_Some}
use Rattle.std.specs.FinMap.{entries, entries_sorted, entries-from_sorted, get, get-entries, get-from_sorted, same_map}
use Rattle.std.specs.FinMap.Entries.{below_all, find, is_sorted}
use Rattle.fluid_table.specs.Keyed.{pairs_of, IsInOrder, table_of}
use Rattle.fluid_clients.specs.declared.table.Row.{Row}
use Rattle.fluid_clients.specs.declared.table.Seat.{Seat}
use Rattle.fluid_clients.specs.Seats.{id_of, row_of, seat_up_to}
use Rattle.fluid_clients.specs.Table.{byte_order, Rows, rows_of, row_up_to, rows_up_to}
use Rattle.fluid_table.proofs.Places.{holds, byte_order_total, byte_order-IsAntisymmetric}

module _ {A : Type 0} (f : A → A) where
  abbrev pub done_to : ℕ → List A → List A
  done_to zero xs = xs
  done_to (suc i) [] = []
  done_to (suc i) (x ∷ xs) = f x ∷ done_to i xs

  pub done_to_end : (xs : List A) (i : ℕ) → length xs ≤ i → done_to i xs ≡ map f xs
  done_to_end [] zero le = refl
  done_to_end [] (suc i) le = refl
  done_to_end (x ∷ xs) zero le = absurd (omega arith)
  done_to_end (x ∷ xs) (suc i) le = ap (λ rest. f x ∷ rest) (done_to_end xs i (omega arith))

  not_yet : (xs : List A) (i : ℕ) (d : A) → get_or (done_to i xs) i d ≡ get_or xs i d
  not_yet xs zero d = refl
  not_yet [] (suc i) d = refl
  not_yet (x ∷ xs) (suc i) d = not_yet xs i d

  next : (xs : List A) (i : ℕ) (d : A) → i < length xs → set (done_to i xs) i (f (get_or xs i d)) ≡ done_to (suc i) xs
  next [] i d lt = absurd (omega arith)
  next (x ∷ xs) zero d lt = refl
  next (x ∷ xs) (suc i) d lt = ap (λ rest. f x ∷ rest) (next xs i d (omega arith))

  pub one_more : (xs now : List A) (i : ℕ) (d : A) → i < length xs → now ≡ done_to i xs → set now i (f (get_or now i d)) ≡ done_to (i + 1) xs
  one_more xs now i d lt is =
      let again : done_to (suc i) xs ≡ done_to (i + 1) xs = let same : suc i ≡ i + 1 = omega arith in ap (λ j. done_to j xs) same in
      ap (λ ys. set ys i (f (get_or ys i d))) is
      ∙ ap (λ x. set (done_to i xs) i (f x)) (not_yet xs i d)
      ∙ next xs i d lt ∙ again

-- ---- rows with no reference above a number

module _ (most : ℕ) where
  abbrev down : List (List ℕ × Row) → List (List ℕ × Row)
  down es = map (λ entry. (entry.0, row_up_to most entry.1)) es

  below_down : (k : List ℕ) (es : List (List ℕ × Row)) → below_all byte_order k (down es) ≡ below_all byte_order k es
  below_down k [] = refl
  below_down k (e ∷ es) = ap (λ b. is_lt (byte_order k e.0) && b) (below_down k es)

  sorted_down : (es : List (List ℕ × Row)) → is_sorted byte_order (down es) ≡ is_sorted byte_order es
  sorted_down [] = refl
  sorted_down (e ∷ es) = ap₂ (λ a b. a && b) (below_down e.0 es) (sorted_down es)

  moved : (b : Bool) (row : Row) (before : Option Row) → cond b (Some (row_up_to most row)) (option_map (row_up_to most) before) ≡ option_map (row_up_to most) (cond b (Some row) before)
  moved true row before = refl
  moved false row before = refl

  find_down : (q : List ℕ) (es : List (List ℕ × Row)) → find byte_order q (down es) ≡ option_map (row_up_to most) (find byte_order q es)
  find_down q [] = refl
  find_down q (e ∷ es) = ap (cond (eq_by_cmp byte_order q e.0) (Some (row_up_to most e.1))) (find_down q es) ∙ moved (eq_by_cmp byte_order q e.0) e.1 (find byte_order q es)

  -- the row under an id
  pub get-rows_up_to : (rows : Rows) (q : List ℕ) → get (rows_up_to most rows) q ≡ option_map (row_up_to most) (get rows q)
  get-rows_up_to rows q =
      get-from_sorted byte_order (down (entries rows)) q (subst T (sym (sorted_down (entries rows))) (entries_sorted rows))
      ∙ find_down q (entries rows) ∙ ap (option_map (row_up_to most)) (sym (get-entries rows q))

  same_found : (o : Option Row) → ((row : Row) → o ≡ Some row → row.reference ≤ most) → option_map (row_up_to most) o ≡ o
  same_found None low = refl
  same_found (Some row) low = ap Some (let same : min row.reference most ≡ row.reference = (let le = low row refl in omega arith) in ap (λ n. record row { reference = n }) same)

  -- where no reference is above the number all rows stay
  pub rows_up_to-same : (rows : Rows) → ((id : List ℕ) (row : Row) → get rows id ≡ Some row → row.reference ≤ most) → rows_up_to most rows ≡ rows
  rows_up_to-same rows low =
      same_map byte_order_total byte_order-IsAntisymmetric _ _ (λ q. get-rows_up_to rows q ∙ same_found (get rows q) (low q))

  low_found : (o : Option Row) (row : Row) → option_map (row_up_to most) o ≡ Some row → row.reference ≤ most
  low_found None row is = absurd (none-some row is)
  low_found (Some other) row is =
      let same : min other.reference most ≡ row.reference = ap (λ (r : Row). r.reference) (same_Some _ _ is) in
      omega (arith, same)

  -- and none is above it behind that
  pub rows_up_to-low : (rows : Rows) (id : List ℕ) (row : Row) → get (rows_up_to most rows) id ≡ Some row → row.reference ≤ most
  rows_up_to-low rows id row is = low_found (get rows id) row (sym (get-rows_up_to rows id) ∙ is)

  -- seats whose rows are so
  pairs_down : (seats : List Seat) → pairs_of id_of row_of (map (seat_up_to most) seats) ≡ down (pairs_of id_of row_of seats)
  pairs_down [] = refl
  pairs_down (seat ∷ seats) = ap (λ rest. (seat.id, row_up_to most seat.row) ∷ rest) (pairs_down seats)

  pub in_order_down : (seats : List Seat) → IsInOrder id_of row_of seats → IsInOrder id_of row_of (map (seat_up_to most) seats)
  in_order_down seats h = ap (is_sorted byte_order) (pairs_down seats) ∙ sorted_down (pairs_of id_of row_of seats) ∙ h

  pub rows_down : (seats : List Seat) → IsInOrder id_of row_of seats → table_of id_of row_of (map (seat_up_to most) seats) ≡ rows_up_to most (table_of id_of row_of seats)
  rows_down seats h = ap rows_of (pairs_down seats) ∙ ap (λ l. rows_of (down l)) (sym (entries-from_sorted byte_order (pairs_of id_of row_of seats) (holds _ h)))
