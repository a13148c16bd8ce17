-- What the least reference is after a change of the rows, for the crates above.
use Rattle.std.proofs.lemmas.Bool.{false≢true, cases_lt}
use Rattle.std.proofs.lemmas.Option.{none-some, same_Some}
use Rattle.std.specs.declared.cmp.Ordering.{Ordering}
use Rattle.std.proofs.Common.{suc, ◌<◌, ◌≤◌, Bool, true, false, cond, ◌⊎◌, inl, inr, Option, None, is_some, length, get_or, ◌≡◌, ℕ, not, T, List, [], ◌∷◌, Some, map, min, fold, refl, sym, ap, subst, ◌∙◌, arith}
use Rattle.std.specs.List.{reduce}
use Rattle.std.specs.Ordering.{is_eq, is_lt, eq_by_cmp}
use Rattle.std.specs.declared.cmp.Ordering.TheVariants.{Less, Equal, Greater}
use Rattle.std.specs.FinMap as finite
use Rattle.std.specs.FinMap.{entries, get-entries, get-insert, get-remove, same_map, entries_sorted, entries-insert, entries-from_sorted, same_entries_map}
use Rattle.std.specs.FinMap.Entries.{below_all, by_order, put, where_key, is_sorted, is_sorted-where_key}
use Rattle.fluid_clients.specs.declared.table.Row.{Row}
use Rattle.fluid_clients.specs.Table.{byte_order, Rows, rows_of, change_row, least, least_with}
use Rattle.fluid_table.proofs.Ordered.{both, first, second, less, find_above, find_at, where_at, where_none}
pub use Rattle.fluid_table.proofs.Places.{byte_order_total, byte_order-IsAntisymmetric}
use Rattle.fluid_table.proofs.Maps.{remove-from_sorted}

abbrev Entries : Type 0
Entries = List (List ℕ × Row)

-- a row, to read a place with
abbrev no_row : Row
no_row = record { last = 0; reference = 0; nacked = false; scopes = record { read = false; write = false; summary = false }; heard = 0 }

-- the lesser of two numbers, either of which may be missing
abbrev pub lesser : Option ℕ → Option ℕ → Option ℕ
lesser None other = other
lesser (Some one) None = Some one
lesser (Some one) (Some other) = Some (min one other)

fold_min : (a b : ℕ) (ys : List ℕ) → fold min (min a b) ys ≡ min a (fold min b ys)
fold_min a b [] = refl
fold_min a b (y ∷ ys) = ap (λ n. fold min n ys) (omega arith) ∙ fold_min a (min b y) ys

-- the least of a number and others is the lesser of it and the least of them
least_of_more : (x : ℕ) (ys : List ℕ) → reduce min (x ∷ ys) ≡ lesser (Some x) (reduce min ys)
least_of_more x [] = refl
least_of_more x (y ∷ ys) = ap Some (fold_min x y ys)

-- without an id that is below the first entry, or is the first entry's
below_less : (x y : List ℕ) (es : Entries) → byte_order x y ≡ Less → T (below_all byte_order y es) → T (below_all byte_order x es)
below_less x y [] p h = tt
below_less x y (e ∷ es) p h =
    both _ _ (subst (λ r. T (is_lt r)) (sym (byte_order_total.trans x y e.0 p (less (byte_order y e.0) (first _ _ h)))) tt) (below_less x y es p (second _ _ h))

others_less : (k : List ℕ) (e : List ℕ × Row) (es : Entries) → T (is_sorted byte_order (e ∷ es)) → byte_order k e.0 ≡ Less → where_key byte_order (λ x. not (eq_by_cmp byte_order k x)) (e ∷ es) ≡ e ∷ es
others_less k e es h p =
    where_none byte_order_total k (e ∷ es) (find_above byte_order_total k (e ∷ es) (both _ _ (subst (λ r. T (is_lt r)) (sym p) tt) (below_less k e.0 es p (first _ _ h))))

others_equal : (k : List ℕ) (e : List ℕ × Row) (es : Entries) → T (is_sorted byte_order (e ∷ es)) → k ≡ e.0 → where_key byte_order (λ x. not (eq_by_cmp byte_order k x)) (e ∷ es) ≡ es
others_equal k e es h same = where_at byte_order_total k (e ∷ es) 0 e h (omega arith) (sym same)

-- the references of the rows
abbrev references : Entries → List ℕ
references es = map (λ row. row.reference) (map (λ entry. entry.1) es)

abbrev others : List ℕ → Entries → Entries
others id es = where_key byte_order (λ x. not (eq_by_cmp byte_order id x)) es

swap_min : (a b : ℕ) (ns : List ℕ) → fold min (min a b) ns ≡ min b (fold min a ns)
swap_min a b ns = ap (λ n. fold min n ns) (omega arith) ∙ fold_min b a ns

module _ (id : List ℕ) (row : Row) where
  -- a row in its place counts beside those before and the other rows
  least_put_behind : (a : ℕ) (es : Entries) → T (is_sorted byte_order es) → fold min a (references (put byte_order id row es)) ≡ min row.reference (fold min a (references (others id es)))
  least_put_behind a [] h = omega arith
  least_put_behind a (e ∷ es) h =
      let with_others : Entries → ℕ = λ rest. min row.reference (fold min a (references rest)) in
      elim (byte_order id e.0) as (λ r. byte_order id e.0 ≡ r → fold min a (references (by_order r ((id, row) ∷ e ∷ es) ((e.0, row) ∷ es) (e ∷ put byte_order id row es))) ≡ min row.reference (fold min a (references (others id (e ∷ es))))) [
        | Less ↦ λ is. swap_min a row.reference (references (e ∷ es)) ∙ ap with_others (sym (others_less id e es h is))
        | Equal ↦ λ is. swap_min a row.reference (references es) ∙ ap with_others (sym (others_equal id e es h (byte_order-IsAntisymmetric id e.0 is)))
        | Greater ↦ λ is. rw is (least_put_behind (min a e.1.reference) es (second _ _ h))
      ] refl

  least_put : (es : Entries) → T (is_sorted byte_order es) → reduce min (references (put byte_order id row es)) ≡ lesser (Some row.reference) (reduce min (references (others id es)))
  least_put [] h = refl
  least_put (e ∷ es) h =
      let with_others : Entries → _ = λ rest. lesser (Some row.reference) (reduce min (references rest)) in
      elim (byte_order id e.0) as (λ r. byte_order id e.0 ≡ r → reduce min (references (by_order r ((id, row) ∷ e ∷ es) ((e.0, row) ∷ es) (e ∷ put byte_order id row es))) ≡ lesser (Some row.reference) (reduce min (references (others id (e ∷ es))))) [
        | Less ↦ λ is. least_of_more row.reference (references (e ∷ es)) ∙ ap with_others (sym (others_less id e es h is))
        | Equal ↦ λ is. least_of_more row.reference (references es) ∙ ap with_others (sym (others_equal id e es h (byte_order-IsAntisymmetric id e.0 is)))
        | Greater ↦ λ is. rw is (ap Some (least_put_behind e.1.reference es (second _ _ h)))
      ] refl

  -- the least reference with a row under an id is the lesser of its own and that of the other rows
  pub least-insert : (rows : Rows) → least (finite.insert rows id row) ≡ lesser (Some row.reference) (least (finite.remove rows id))
  least-insert rows =
      let es = entries rows in
      let h = entries_sorted rows in
      let rows_are : rows ≡ rows_of es = same_entries_map _ _ (sym (entries-from_sorted byte_order es h)) in
      let rest : entries (finite.remove rows id) ≡ others id es =
      ap (λ r. entries (finite.remove r id)) rows_are
      ∙ ap entries (remove-from_sorted byte_order_total es h id byte_order-IsAntisymmetric)
      ∙ entries-from_sorted byte_order (others id es) (is_sorted-where_key byte_order (λ x. not (eq_by_cmp byte_order id x)) es h) in
      ap (λ (entries : Entries). reduce min (references entries)) (entries-insert byte_order_total rows id row)
      ∙ least_put es h
      ∙ ap (λ (entries : Entries). lesser (Some row.reference) (reduce min (references entries))) (sym rest)

-- ---- what does not change the rows

-- ids that tie are one
tied_is : (x y : List ℕ) → is_eq (byte_order x y) ≡ true → x ≡ y
tied_is x y is = byte_order-IsAntisymmetric x y (equal (byte_order x y) is)
  where
    equal : (o : Ordering) → is_eq o ≡ true → o ≡ Equal
    equal Less e = absurd (false≢true e)
    equal Equal e = refl
    equal Greater e = absurd (false≢true e)

-- the table answers alike where what it answers at one id is what it answered before
same_at : (rows : Rows) (id q : List ℕ) (o : Option Row) → finite.get rows id ≡ o → cond (eq_by_cmp byte_order q id) o (finite.get rows q) ≡ finite.get rows q
same_at rows id q o is =
    elim (eq_by_cmp byte_order q id) as (λ b. eq_by_cmp byte_order q id ≡ b → cond b o (finite.get rows q) ≡ finite.get rows q) [
      | true ↦ λ tie. sym is ∙ ap (finite.get rows) (sym (tied_is q id tie))
      | false ↦ λ tie. refl
    ] refl

-- to remove an id that isn't there changes nothing
pub remove-absent : (rows : Rows) (id : List ℕ) → finite.get rows id ≡ None → finite.remove rows id ≡ rows
remove-absent rows id none =
    same_map byte_order_total byte_order-IsAntisymmetric _ _ (λ q. get-remove byte_order_total rows id q ∙ same_at rows id q None none)

-- to insert the row that is there changes nothing
pub insert-same : (rows : Rows) (id : List ℕ) (row : Row) → finite.get rows id ≡ Some row → finite.insert rows id row ≡ rows
insert-same rows id row there =
    same_map byte_order_total byte_order-IsAntisymmetric _ _ (λ q. get-insert byte_order_total rows id row q ∙ same_at rows id q (Some row) there)

picked_twice : {A : Type 0} (b : Bool) (first second other : A) → cond b second (cond b first other) ≡ cond b second other
picked_twice true first second other = refl
picked_twice false first second other = refl

-- a row that is inserted under the id of another takes its place
pub insert-again : (rows : Rows) (id : List ℕ) (first second : Row) → finite.insert (finite.insert rows id first) id second ≡ finite.insert rows id second
insert-again rows id first second =
    same_map byte_order_total byte_order-IsAntisymmetric _ _ (λ q.
    get-insert byte_order_total (finite.insert rows id first) id second q
    ∙ ap (λ o. cond (eq_by_cmp byte_order q id) (Some second) o) (get-insert byte_order_total rows id first q)
    ∙ picked_twice (eq_by_cmp byte_order q id) (Some first) (Some second) (finite.get rows q)
    ∙ sym (get-insert byte_order_total rows id second q))

-- a changed row that is there is inserted, and where there is none nothing changes
pub change-there : (rows : Rows) (id : List ℕ) (f : Row → Row) (row : Row) → finite.get rows id ≡ Some row → change_row id f rows ≡ finite.insert rows id (f row)
change-there rows id f row there = rw there

pub change-absent : (rows : Rows) (id : List ℕ) (f : Row → Row) → finite.get rows id ≡ None → change_row id f rows ≡ rows
change-absent rows id f none = rw none

-- the least reference with this one in a row is the lesser of it and of those of the other rows
pub least_with-there : (rows : Rows) (id : List ℕ) (reference : ℕ) (row : Row) → finite.get rows id ≡ Some row →
    least_with rows id reference ≡ lesser (Some reference) (least (finite.remove rows id))
least_with-there rows id reference row there =
    ap least (change-there rows id (λ row. record row { reference = reference }) row there) ∙ least-insert id (record row { reference = reference }) rows

pub least_with-joined : (rows : Rows) (id : List ℕ) (reference : ℕ) (rest : Option ℕ) → is_some (finite.get rows id) ≡ true → rest ≡ least (finite.remove rows id) →
    least_with rows id reference ≡ lesser (Some reference) rest
least_with-joined rows id reference rest joined is =
    elim (finite.get rows id) as (λ o. finite.get rows id ≡ o → least_with rows id reference ≡ lesser (Some reference) rest) [
      | None ↦ λ none. absurd (false≢true (sym (ap is_some none) ∙ joined))
      | Some row ↦ λ there. least_with-there rows id reference row there ∙ ap (lesser (Some reference)) (sym is)
    ] refl

-- ---- the least reference is the least

-- with a row under an id, the least reference is the lesser of its own and that of the other rows
pub least-there : (rows : Rows) (id : List ℕ) (row : Row) → finite.get rows id ≡ Some row → least rows ≡ lesser (Some row.reference) (least (finite.remove rows id))
least-there rows id row there = ap least (sym (insert-same rows id row there)) ∙ least-insert id row rows

some_lesser : (a : ℕ) (o : Option ℕ) → (n : ℕ) × (lesser (Some a) o ≡ Some n) × (n ≤ a)
some_lesser a None = (a, refl, omega arith)
some_lesser a (Some b) = (min a b, refl, omega arith)

-- a change that leaves the references leaves the least of them
pub least-change : (rows : Rows) (id : List ℕ) (f : Row → Row) → ((row : Row) → (f row).reference ≡ row.reference) → least (change_row id f rows) ≡ least rows
least-change rows id f same =
    elim (finite.get rows id) as (λ o. finite.get rows id ≡ o → least (change_row id f rows) ≡ least rows) [
      | None ↦ λ none. ap least (change-absent rows id f none)
      | Some row ↦ λ there.
          ap least (change-there rows id f row there)
          ∙ least-insert id (f row) rows
          ∙ ap (λ n. lesser (Some n) (least (finite.remove rows id))) (same row)
          ∙ sym (least-there rows id row there)
    ] refl

-- no reference is below the least
pub least-below : (rows : Rows) (id : List ℕ) (row : Row) (m : ℕ) → finite.get rows id ≡ Some row → least rows ≡ Some m → m ≤ row.reference
least-below rows id row m there is =
    let found = some_lesser row.reference (least (finite.remove rows id)) in
    let same : m ≡ found.0 = same_Some _ _ (sym is ∙ least-there rows id row there ∙ found.1) in
    omega (arith, found.2)

-- where there is no least reference nobody is joined
pub least-none : (rows : Rows) (id : List ℕ) → least rows ≡ None → finite.get rows id ≡ None
least-none rows id is =
    elim (finite.get rows id) as (λ o. finite.get rows id ≡ o → o ≡ None) [
      | None ↦ λ there. refl
      | Some row ↦ λ there. absurd (none-some _ (sym is ∙ least-there rows id row there ∙ (some_lesser row.reference (least (finite.remove rows id))).1))
    ] refl

-- the least of some numbers is the first or that of an entry
least_place : (a : ℕ) (es : Entries) (d : List ℕ × Row) → (fold min a (references es) ≡ a) ⊎ ((j : ℕ) × (j < length es) × (fold min a (references es) ≡ (get_or es j d).1.reference))
least_place a [] d = inl refl
least_place a (e ∷ es) d =
    elim (least_place (min a e.1.reference) es d) [
      | inl is ↦ elim (cases_lt a e.1.reference) [
        | inl less ↦ inl (is ∙ omega arith)
        | inr more ↦ inr (0, omega arith, is ∙ omega arith)
      ]
      | inr found ↦ inr (suc found.0, omega (arith, found.1), found.2)
    ]

-- the least reference is one of the table
pub record IsReached (rows : Rows) (m : ℕ) : Type 0 where
  pub id : List ℕ
  pub row : Row
  pub there : finite.get rows id ≡ Some row
  pub is : m ≡ row.reference

reached_at : (rows : Rows) (m j : ℕ) (d : List ℕ × Row) → j < length (entries rows) → m ≡ (get_or (entries rows) j d).1.reference → IsReached rows m
reached_at rows m j d lt is = record {
  id = (get_or (entries rows) j d).0;
  row = (get_or (entries rows) j d).1;
  there = get-entries rows _ ∙ find_at byte_order_total _ (entries rows) j d (entries_sorted rows) lt refl;
  is = is;
}

reached_in : (es : Entries) (m : ℕ) → reduce min (references es) ≡ Some m → (d : List ℕ × Row) → (j : ℕ) × (j < length es) × (m ≡ (get_or es j d).1.reference)
reached_in [] m is d = absurd (none-some _ is)
reached_in (e ∷ es) m is d =
    let same : fold min e.1.reference (references es) ≡ m = same_Some _ _ is in
    elim (least_place e.1.reference es d) [
      | inl first ↦ (0, omega arith, sym same ∙ first)
      | inr found ↦ (suc found.0, omega (arith, found.1), sym same ∙ found.2)
    ]

pub least-reached : (rows : Rows) (m : ℕ) → least rows ≡ Some m → IsReached rows m
least-reached rows m is =
    let d : List ℕ × Row = ([], no_row) in
    let found = reached_in (entries rows) m is d in
    reached_at rows m found.0 d found.1 found.2

-- a number that no reference is below, and that is one, is the least
pub least-unique : (rows : Rows) (m : ℕ) → ((id : List ℕ) (row : Row) → finite.get rows id ≡ Some row → m ≤ row.reference) → IsReached rows m → least rows ≡ Some m
least-unique rows m below reached =
    elim (least rows) as (λ o. least rows ≡ o → o ≡ Some m) [
      | None ↦ λ is. absurd (none-some _ (sym (least-none rows reached.id is) ∙ reached.there))
      | Some n ↦ λ is.
          let up : n ≤ reached.row.reference = least-below rows reached.id reached.row n reached.there is in
          let other = least-reached rows n is in
          let down : m ≤ other.row.reference = below other.id other.row other.there in
          ap Some (omega (arith, reached.is, other.is))
    ] refl
