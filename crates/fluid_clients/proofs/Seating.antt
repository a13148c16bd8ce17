-- What the table of indexed seats is, and its least reference.
use Rattle.std.proofs.Common.{◌≡◌, ℕ, false, zero, suc, ◌+◌, ◌<◌, ◌≤◌, ◌⊎◌, inl, inr, List, [], ◌∷◌, ◌++◌, length, length-set, set, map, min, fold, get_or, slice_get, option_map, Option, None, Some, refl, sym, ap, subst, ◌∙◌, arith}
use Rattle.std.specs.List.{reduce}
use Rattle.std.specs.List.{insert, remove}
use Rattle.std.specs.FinMap as finite
use Rattle.std.specs.FinMap.{get, keys, len, len-entries, entries-from_sorted}
use Rattle.std.proofs.lemmas.Bool.{cases_eq}
use Rattle.std.proofs.lemmas.List.{length-map, length-append}
use Rattle.std.proofs.lemmas.Simd.{map-map}
use Rattle.std.proofs.lemmas.Option.{none-some, same_Some, slice_get-map, slice_get_within, get_or_from_slice_get}
use Rattle.fluid_table.specs.Table.{byte_order}
use Rattle.fluid_table.specs.Keyed.{pairs_of, IsInOrder, IsAt, IsGap, table_of}
use Rattle.fluid_table.proofs.Places.{holds}
use Rattle.fluid_table.proofs.KeyedPlaces.{get_there, key_read, value_read, insert_there, in_order_set, remove_there, in_order_removed, insert_gap, in_order_inserted}
use Rattle.fluid_clients.specs.declared.table.Row.{Row}
use Rattle.fluid_clients.specs.declared.table.Seat.{Seat}
use Rattle.fluid_clients.specs.Table.{Rows, least}
use Rattle.fluid_clients.specs.Index.{Holds, IsLeastHeld, itself}
use Rattle.fluid_clients.specs.Seats.{id_of, row_of, slots_of, times, AreHeld, IsIndexed, AreSeated}
use Rattle.fluid_clients.proofs.Winners.{within}
use Rattle.fluid_clients.proofs.Indexed.{hit-same, hit-other, empty-held, seat-slot, left, reseated, unmoved, free-slot, seated, slot-more}

-- ---- the table

-- a seat, to read a place with
abbrev pub no_seat : Seat
no_seat = record { id = []; row = record { last = 0; reference = 0; nacked = false; scopes = record { read = false; write = false; summary = false }; heard = 0 }; slot = 0 }

abbrev pub rows_in : List Seat → Rows
rows_in seats = table_of id_of row_of seats

pub count_of : (seats : List Seat) → IsInOrder id_of row_of seats → len (rows_in seats) ≡ length seats
count_of seats h = len-entries (rows_in seats) ∙ ap length (entries-from_sorted byte_order (pairs_of id_of row_of seats) (holds _ h)) ∙ length-map seats (λ seat. (seat.id, seat.row))

pub ids_of : (seats : List Seat) (place : ℕ) → IsInOrder id_of row_of seats → slice_get (keys (rows_in seats)) place ≡ option_map (λ seat. seat.id) (slice_get seats place)
ids_of seats place h =
    ap (λ (es : List (List ℕ × Row)). slice_get (map (λ entry. entry.0) es) place) (entries-from_sorted byte_order (pairs_of id_of row_of seats) (holds _ h))
    ∙ ap (λ ids. slice_get ids place) (map-map _ _ seats)
    ∙ slice_get-map (λ (seat : Seat). seat.id) seats place

-- the row of the client whose id stands in a place is that of the seat in this place
pub row_in_place : (seats : List Seat) (place : ℕ) (id : List ℕ) → IsInOrder id_of row_of seats → slice_get (keys (rows_in seats)) place ≡ Some id → get (rows_in seats) id ≡ option_map (λ seat. seat.row) (slice_get seats place)
row_in_place seats place id h at = by (slice_get seats place) refl
  where
    by : (o : Option Seat) → slice_get seats place ≡ o → get (rows_in seats) id ≡ option_map (λ seat. seat.row) o
    by None is = absurd (none-some _ (sym (sym at ∙ ids_of seats place h ∙ ap (option_map (λ (seat : Seat). seat.id)) is)))
    by (Some seat) is =
        let own : seat.id ≡ id = same_Some _ _ (sym (ap (option_map (λ (s : Seat). s.id)) is) ∙ sym (ids_of seats place h) ∙ at) in
        get_there id_of row_of seats h id place (record { in_range = slice_get_within seats place seat is; has_key = λ d. ap (λ (s : Seat). s.id) (get_or_from_slice_get seats place seat d is) ∙ own }) seat
        ∙ ap (λ (s : Seat). Some s.row) (get_or_from_slice_get seats place seat seat is)

-- ---- the least reference

abbrev references : List Seat → List ℕ
references seats = map (λ seat. seat.row.reference) seats

least_in : (seats : List Seat) → IsInOrder id_of row_of seats → least (rows_in seats) ≡ reduce min (references seats)
least_in seats h =
    ap (λ (es : List (List ℕ × Row)). reduce min (map (λ row. row.reference) (map (λ entry. entry.1) es))) (entries-from_sorted byte_order (pairs_of id_of row_of seats) (holds _ h))
    ∙ ap (λ rows. reduce min (map (λ (row : Row). row.reference) rows)) (map-map _ _ seats)
    ∙ ap (reduce min) (map-map _ _ seats)

abbrev AreAtLeast : ℕ → List ℕ → Type 0
AreAtLeast m [] = Unit {0}
AreAtLeast m (n ∷ ns) = (m ≤ n) × AreAtLeast m ns

fold-least : (a m : ℕ) (ns : List ℕ) → m ≤ a → AreAtLeast m ns → (m ≡ a) ⊎ (0 < times m ns) → fold min a ns ≡ m
fold-least a m [] low all (inl same) = sym same
fold-least a m [] low all (inr some) = absurd (omega (arith, some))
fold-least a m (n ∷ ns) low all (inl same) = let high = all.0 in fold-least (min a n) m ns (omega (arith, low, high)) all.1 (inl (omega (arith, same, high)))
fold-least a m (n ∷ ns) low all (inr some) =
    let high = all.0 in
    elim (cases_eq n m) as (λ _. fold min (min a n) ns ≡ m) [
      | inl same ↦ fold-least (min a n) m ns (omega (arith, low, high)) all.1 (inl (omega (arith, same, low)))
      | inr ne ↦ let none = hit-other m n ne in fold-least (min a n) m ns (omega (arith, low, high)) all.1 (inr (omega (arith, some, none)))
    ]

reduce-least : (m : ℕ) (ns : List ℕ) → AreAtLeast m ns → 0 < times m ns → reduce min ns ≡ Some m
reduce-least m [] all some = absurd (omega (arith, some))
reduce-least m (n ∷ ns) all some =
    elim (cases_eq n m) as (λ _. Some (fold min n ns) ≡ Some m) [
      | inl same ↦ ap Some (fold-least n m ns all.0 all.1 (inl (sym same)))
      | inr ne ↦ let none = hit-other m n ne in ap Some (fold-least n m ns all.0 all.1 (inr (omega (arith, some, none))))
    ]

all_above : (index : List (Option ℕ)) (seats : List Seat) (m : ℕ) → AreHeld index seats → ((slot held : ℕ) → Holds index slot held → m ≤ held) → AreAtLeast m (references seats)
all_above index [] m held low = tt
all_above index (x ∷ seats) m held low = (low x.slot x.row.reference held.0, all_above index seats m held.1 low)

among : (index : List (Option ℕ)) (seats : List Seat) (slot m : ℕ) → AreHeld index seats → Holds index slot m → 0 < times slot (slots_of seats) → 0 < times m (references seats)
among index [] slot m held is some = absurd (omega (arith, some))
among index (x ∷ seats) slot m held is some =
    elim (cases_eq x.slot slot) as (λ _. 0 < times m (references (x ∷ seats))) [
      | inl same ↦
          let value : x.row.reference ≡ m = same_Some _ _ (sym held.0 ∙ ap (λ i. get_or index i None) same ∙ is) in
          let one = hit-same m x.row.reference value in
          omega (arith, one)
      | inr ne ↦ let none = hit-other slot x.slot ne in let rest = among index seats slot m held.1 is (omega (arith, some, none)) in omega (arith, rest)
    ]

-- the least value of the index is the least reference of the table
pub least-indexed : (seats : List Seat) (index : List (Option ℕ)) (free : List ℕ) (o : Option ℕ) → IsInOrder id_of row_of seats → IsIndexed seats index free → IsLeastHeld itself index o → o ≡ least (rows_in seats)
least-indexed seats index free None order indexed none = nothing seats indexed.held ∙ sym (least_in seats order)
  where
    nothing : (seats : List Seat) → AreHeld index seats → None ≡ reduce min (references seats)
    nothing [] held = refl
    nothing (x ∷ seats) held = absurd (none-some _ (sym (none x.slot) ∙ held.0))
least-indexed seats index free (Some m) order indexed least_is =
    let lt = within index least_is.slot m least_is.holds in
    let once = indexed.once least_is.slot lt in
    let none = empty-held index free least_is.slot m least_is.holds indexed.empty in
    sym (least_in seats order ∙ reduce-least m (references seats) (all_above index seats m indexed.held least_is.least) (among index seats least_is.slot m indexed.held least_is.holds (omega (arith, once, none))))

-- ---- changes of a client's seat

module _ (seats : List Seat) (index : List (Option ℕ)) (free : List ℕ) (room more : ℕ) (kept : AreSeated seats index free room more) (id : List ℕ) (at : ℕ) (is : IsAt id_of seats id at) (s : Seat) (read : s ≡ get_or seats at s) where
  same_slot : s.slot ≡ (get_or seats at s).slot
  same_slot = ap (λ (seat : Seat). seat.slot) read

  pub slot-there : s.slot < length index
  slot-there = subst (λ i. i < length index) (sym same_slot) (seat-slot seats index free at s kept.indexed is.in_range)

  pub row-there : get (rows_in seats) id ≡ Some s.row
  row-there = value_read id_of row_of seats kept.order id at is s read

  pub rows-left : rows_in (remove seats at) ≡ finite.remove (rows_in seats) id
  rows-left = remove_there id_of row_of seats kept.order id at is s

  pub kept-left : AreSeated (remove seats at) (set index s.slot None) (free ++ s.slot ∷ []) room more
  kept-left = record {
    order = in_order_removed id_of row_of seats kept.order id at is s;
    indexed = subst (λ i. IsIndexed (remove seats at) (set index i None) (free ++ i ∷ [])) (sym same_slot) (left seats index free at s kept.indexed is.in_range);
    seated = (let le = kept.seated in omega (arith, le, length-set index s.slot None));
    freed = (let le = kept.freed in omega (arith, le, length-set index s.slot None));
  }

  -- without the client the others are left
  pub least-others : (o : Option ℕ) → IsLeastHeld itself (set index s.slot None) o → o ≡ least (finite.remove (rows_in seats) id)
  least-others o least_is = least-indexed (remove seats at) (set index s.slot None) (free ++ s.slot ∷ []) o kept-left.order kept-left.indexed least_is ∙ ap least rows-left

  pub slots-count : length index ≡ len (rows_in seats) + length free
  slots-count = let count = kept.indexed.count in omega (arith, count, count_of seats kept.order)

  module _ (new : Row) where
    abbrev pub reseat : Seat
    reseat = record s { row = new }

    same_id : id_of s ≡ id
    same_id = key_read id_of row_of seats kept.order id at is s read

    pub rows-changed : rows_in (set seats at reseat) ≡ finite.insert (rows_in seats) id new
    rows-changed = insert_there id_of row_of seats kept.order id at is reseat same_id

    pub kept-changed : AreSeated (set seats at reseat) (set index s.slot (Some new.reference)) free room more
    kept-changed = record {
      order = in_order_set id_of row_of seats kept.order id at is reseat same_id;
      indexed = subst (λ i. IsIndexed (set seats at reseat) (set index i (Some new.reference)) free) (sym same_slot) (reseated seats index free at s kept.indexed is.in_range reseat same_slot);
      seated = (let le = kept.seated in omega (arith, le, length-set index s.slot (Some new.reference)));
      freed = (let le = kept.freed in omega (arith, le, length-set index s.slot (Some new.reference)));
    }

    pub kept-heard : new.reference ≡ s.row.reference → AreSeated (set seats at reseat) index free room more
    kept-heard same = record {
      order = in_order_set id_of row_of seats kept.order id at is reseat same_id;
      indexed = unmoved seats index free at s kept.indexed is.in_range reseat same_slot (same ∙ ap (λ (seat : Seat). seat.row.reference) read);
      seated = kept.seated;
      freed = kept.freed;
    }

-- ---- a client that joins

pub slot-free : (seats : List Seat) (index : List (Option ℕ)) (free : List ℕ) (slot room more : ℕ) → AreSeated seats index (free ++ slot ∷ []) room more → slot < length index
slot-free seats index free slot room more kept = free-slot seats index free slot kept.indexed

module _ (seats : List Seat) (index : List (Option ℕ)) (free : List ℕ) (slot room more : ℕ) (kept : AreSeated seats index (free ++ slot ∷ []) room more) (at : ℕ) (s : Seat) (same : s.slot ≡ slot) (gap : IsGap id_of seats (id_of s) at) where
  pub rows-joined : rows_in (insert seats at s) ≡ finite.insert (rows_in seats) (id_of s) s.row
  rows-joined = insert_gap id_of row_of seats kept.order (id_of s) at gap s refl

  pub kept-joined : AreSeated (insert seats at s) (set index slot (Some s.row.reference)) free room more
  kept-joined = record {
    order = in_order_inserted id_of row_of seats kept.order (id_of s) at gap s refl;
    indexed = seated seats index free slot kept.indexed at s same gap.in_range;
    seated = (let le = kept.seated in omega (arith, le, length-set index slot (Some s.row.reference)));
    freed = (let le = kept.freed in omega (arith, le, length-set index slot (Some s.row.reference)));
  }

  pub joined-count : length index ≡ len (rows_in (insert seats at s)) + length free
  joined-count =
      let count = kept-joined.indexed.count in
      omega (arith, count, count_of (insert seats at s) kept-joined.order, length-set index slot (Some s.row.reference))

-- ---- one slot more

pub kept-more : (seats : List Seat) (index : List (Option ℕ)) (free : List ℕ) (room more new_room new_more : ℕ) → AreSeated seats index free room more → suc (length index) ≤ new_room → suc (length index) ≤ new_more →
    AreSeated seats (index ++ None ∷ []) (free ++ length index ∷ []) new_room new_more
kept-more seats index free room more new_room new_more kept le le_more =
    let sum = length-append index (None ∷ []) in
    record {
      order = kept.order;
      indexed = slot-more seats index free kept.indexed;
      seated = omega (arith, le, sum);
      freed = omega (arith, le_more, sum);
    }

-- more room
pub roomier : (seats : List Seat) (index : List (Option ℕ)) (free : List ℕ) (room more new_room new_more : ℕ) → AreSeated seats index free room more → room ≤ new_room → more ≤ new_more → AreSeated seats index free new_room new_more
roomier seats index free room more new_room new_more kept le le_more = record {
  order = kept.order;
  indexed = kept.indexed;
  seated = (let fits = kept.seated in omega (arith, fits, le));
  freed = (let fits = kept.freed in omega (arith, fits, le_more));
}
