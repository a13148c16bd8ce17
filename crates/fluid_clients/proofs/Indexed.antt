-- Seats and the index of their references, through each change.
use Rattle.std.proofs.Common.{◌≡◌, ◌≢◌, ℕ, zero, suc, ◌+◌, ◌<◌, ◌≤◌, ◌⊎◌, inl, inr, Bool, true, false, cond, List, [], ◌∷◌, ◌++◌, length, map, get_or, set, Option, None, Some, refl, sym, ap, subst, ◌∙◌, arith, get_or-set_other, get_or-set_same, length-set}
use Rattle.std.specs.Prelude.{nat_eq}
use Rattle.std.specs.List.{insert, remove}
use Rattle.std.proofs.lemmas.Bool.{eqb-true, eq-eqb, ne_eqb, cases_eq}
use Rattle.std.proofs.lemmas.Option.{none-some, same_Some}
use Rattle.std.proofs.lemmas.List.{length-append, get_or_past}
use Rattle.fluid_clients.specs.declared.table.Seat.{Seat}
use Rattle.fluid_clients.specs.Index.{Holds}
use Rattle.fluid_clients.specs.Seats.{slots_of, times, AreHeld, AreEmpty, IsIndexed}
use Rattle.fluid_clients.proofs.Winners.{within, elsewhere}

-- ---- how often a slot stands in a list

abbrev pub hit : ℕ → ℕ → ℕ
hit n x = cond (nat_eq x n) 1 0

pub hit-same : (n x : ℕ) → x ≡ n → hit n x ≡ 1
hit-same n x same = ap (λ b. cond b 1 0) (eq-eqb x n same)

pub hit-other : (n x : ℕ) → (x ≡ n → ⊥) → hit n x ≡ 0
hit-other n x ne = ap (λ b. cond b 1 0) (ne_eqb x n ne)

pub times-append : (n : ℕ) (xs : List ℕ) (y : ℕ) → times n (xs ++ y ∷ []) ≡ times n xs + hit n y
times-append n [] y = omega arith
times-append n (x ∷ xs) y = let rest = times-append n xs y in omega (arith, rest)

pub times-inserted : (n : ℕ) (seats : List Seat) (at : ℕ) (s : Seat) → at ≤ length seats → times n (slots_of (insert seats at s)) ≡ hit n s.slot + times n (slots_of seats)
times-inserted n [] zero s le = refl
times-inserted n [] (suc at) s le = absurd (omega (arith, le))
times-inserted n (x ∷ seats) zero s le = refl
times-inserted n (x ∷ seats) (suc at) s le = let rest = times-inserted n seats at s (omega (arith, le)) in omega (arith, rest)

pub times-removed : (n : ℕ) (seats : List Seat) (at : ℕ) (d : Seat) → at < length seats → times n (slots_of seats) ≡ hit n (get_or seats at d).slot + times n (slots_of (remove seats at))
times-removed n [] at d lt = absurd (omega (arith, lt))
times-removed n (x ∷ seats) zero d lt = refl
times-removed n (x ∷ seats) (suc at) d lt = let rest = times-removed n seats at d (omega (arith, lt)) in omega (arith, rest)

-- a slot that stands in the list is that of a seat
pub found : (n : ℕ) (seats : List Seat) (d : Seat) → 0 < times n (slots_of seats) → (at : ℕ) × (at < length seats) × ((get_or seats at d).slot ≡ n)
found n [] d some = absurd (omega (arith, some))
found n (x ∷ seats) d some =
    elim (cases_eq x.slot n) as (λ _. (at : ℕ) × (at < length (x ∷ seats)) × ((get_or (x ∷ seats) at d).slot ≡ n)) [
      | inl same ↦ (0, omega arith, same)
      | inr ne ↦ let none = hit-other n x.slot ne in let rest = found n seats d (omega (arith, some, none)) in (suc rest.0, omega (arith, rest.1), rest.2)
    ]

pub set-inserted : (seats : List Seat) (at : ℕ) (s : Seat) → at < length seats → set seats at s ≡ insert (remove seats at) at s
set-inserted [] at s lt = absurd (omega (arith, lt))
set-inserted (x ∷ seats) zero s lt = nothing_there seats
  where
    nothing_there : (rest : List Seat) → s ∷ rest ≡ insert rest 0 s
    nothing_there [] = refl
    nothing_there (y ∷ rest) = refl
set-inserted (x ∷ seats) (suc at) s lt = ap (λ rest. x ∷ rest) (set-inserted seats at s (omega (arith, lt)))

pub length-removed : (seats : List Seat) (at : ℕ) → at < length seats → suc (length (remove seats at)) ≡ length seats
length-removed [] at lt = absurd (omega (arith, lt))
length-removed (x ∷ seats) zero lt = refl
length-removed (x ∷ seats) (suc at) lt = let rest = length-removed seats at (omega (arith, lt)) in omega (arith, rest)

pub length-inserted : (seats : List Seat) (at : ℕ) (s : Seat) → at ≤ length seats → length (insert seats at s) ≡ suc (length seats)
length-inserted [] zero s le = refl
length-inserted [] (suc at) s le = absurd (omega (arith, le))
length-inserted (x ∷ seats) zero s le = refl
length-inserted (x ∷ seats) (suc at) s le = let rest = length-inserted seats at s (omega (arith, le)) in omega (arith, rest)

-- ---- what the seats' slots hold

one_of : (n x : ℕ) → hit n x ≡ 0 → n ≢ x
one_of n x none = λ same. absurd (let one = hit-same n x (sym same) in omega (arith, one, none))

pub held-elsewhere : (index : List (Option ℕ)) (slot : ℕ) (v : Option ℕ) (seats : List Seat) → times slot (slots_of seats) ≡ 0 → AreHeld index seats → AreHeld (set index slot v) seats
held-elsewhere index slot v [] none held = tt
held-elsewhere index slot v (x ∷ seats) none held =
    let other : x.slot ≢ slot = λ same. absurd (let one = hit-same slot x.slot same in omega (arith, one, none)) in
    (elsewhere index slot x.slot v other ∙ held.0, held-elsewhere index slot v seats (omega (arith, none)) held.1)

pub held-inserted : (index : List (Option ℕ)) (seats : List Seat) (at : ℕ) (s : Seat) → AreHeld index seats → Holds index s.slot s.row.reference → AreHeld index (insert seats at s)
held-inserted index [] zero s held is = (is, tt)
held-inserted index [] (suc at) s held is = (is, tt)
held-inserted index (x ∷ seats) zero s held is = (is, held)
held-inserted index (x ∷ seats) (suc at) s held is = (held.0, held-inserted index seats at s held.1 is)

pub held-removed : (index : List (Option ℕ)) (seats : List Seat) (at : ℕ) → AreHeld index seats → AreHeld index (remove seats at)
held-removed index [] zero held = tt
held-removed index [] (suc at) held = tt
held-removed index (x ∷ seats) zero held = held.1
held-removed index (x ∷ seats) (suc at) held = (held.0, held-removed index seats at held.1)

pub held-at : (index : List (Option ℕ)) (seats : List Seat) (at : ℕ) (d : Seat) → AreHeld index seats → at < length seats → Holds index (get_or seats at d).slot (get_or seats at d).row.reference
held-at index [] at d held lt = absurd (omega (arith, lt))
held-at index (x ∷ seats) zero d held lt = held.0
held-at index (x ∷ seats) (suc at) d held lt = held-at index seats at d held.1 (omega (arith, lt))

-- a slot that holds nothing is no seat's
pub unheld : (index : List (Option ℕ)) (seats : List Seat) (slot : ℕ) → get_or index slot None ≡ None → AreHeld index seats → times slot (slots_of seats) ≡ 0
unheld index [] slot none held = refl
unheld index (x ∷ seats) slot none held =
    let rest = unheld index seats slot none held.1 in
    let zero_hit = hit-other slot x.slot (λ same. none-some _ (sym none ∙ ap (λ i. get_or index i None) (sym same) ∙ held.0)) in
    omega (arith, rest, zero_hit)

pub held-more : (index : List (Option ℕ)) (seats : List Seat) → AreHeld index seats → AreHeld (index ++ None ∷ []) seats
held-more index [] held = tt
held-more index (x ∷ seats) held = (more index x.slot x.row.reference held.0, held-more index seats held.1)
  where
    more : (index : List (Option ℕ)) (slot v : ℕ) → Holds index slot v → Holds (index ++ None ∷ []) slot v
    more [] slot v is = absurd (none-some v is)
    more (x ∷ index) zero v is = is
    more (x ∷ index) (suc slot) v is = more index slot v is

-- ---- what the free slots hold

pub empty-elsewhere : (index : List (Option ℕ)) (slot : ℕ) (v : Option ℕ) (free : List ℕ) → times slot free ≡ 0 → AreEmpty index free → AreEmpty (set index slot v) free
empty-elsewhere index slot v [] none empty = tt
empty-elsewhere index slot v (f ∷ free) none empty =
    let other : f ≢ slot = λ same. absurd (let one = hit-same slot f same in omega (arith, one, none)) in
    (((let lt = empty.0.0 in omega (arith, lt, length-set index slot v)), elsewhere index slot f v other ∙ empty.0.1), empty-elsewhere index slot v free (omega (arith, none)) empty.1)

pub empty-append : (index : List (Option ℕ)) (free : List ℕ) (slot : ℕ) → AreEmpty index free → slot < length index → get_or index slot None ≡ None → AreEmpty index (free ++ slot ∷ [])
empty-append index [] slot empty lt none = ((lt, none), tt)
empty-append index (f ∷ free) slot empty lt none = (empty.0, empty-append index free slot empty.1 lt none)

pub empty-last : (index : List (Option ℕ)) (free : List ℕ) (slot : ℕ) → AreEmpty index (free ++ slot ∷ []) → AreEmpty index free × (slot < length index) × (get_or index slot None ≡ None)
empty-last index [] slot empty = (tt, empty.0.0, empty.0.1)
empty-last index (f ∷ free) slot empty = let rest = empty-last index free slot empty.1 in ((empty.0, rest.0), rest.1, rest.2)

pub empty-more : (index : List (Option ℕ)) (free : List ℕ) → AreEmpty index free → AreEmpty (index ++ None ∷ []) free
empty-more index [] empty = tt
empty-more index (f ∷ free) empty =
    (((let lt = empty.0.0 in let sum = length-append index (None ∷ []) in omega (arith, lt, sum)), more index f empty.0.1), empty-more index free empty.1)
  where
    more : (index : List (Option ℕ)) (slot : ℕ) → get_or index slot None ≡ None → get_or (index ++ None ∷ []) slot None ≡ None
    more [] zero is = refl
    more [] (suc slot) is = refl
    more (x ∷ index) zero is = is
    more (x ∷ index) (suc slot) is = more index slot is

-- a slot that isn't there is not among them, nor one that holds a value
pub empty-out : (index : List (Option ℕ)) (free : List ℕ) (slot : ℕ) → length index ≤ slot → AreEmpty index free → times slot free ≡ 0
empty-out index [] slot out empty = refl
empty-out index (f ∷ free) slot out empty =
    let rest = empty-out index free slot out empty.1 in
    let lt = empty.0.0 in
    let none = hit-other slot f (λ same. absurd (omega (arith, same, lt, out))) in
    omega (arith, rest, none)

pub empty-held : (index : List (Option ℕ)) (free : List ℕ) (slot v : ℕ) → Holds index slot v → AreEmpty index free → times slot free ≡ 0
empty-held index [] slot v held empty = refl
empty-held index (f ∷ free) slot v held empty =
    let rest = empty-held index free slot v held empty.1 in
    let none = hit-other slot f (λ same. none-some v (sym empty.0.1 ∙ ap (λ i. get_or index i None) same ∙ held)) in
    omega (arith, rest, none)

-- ---- a seat more

module _ (seats : List Seat) (index : List (Option ℕ)) (free : List ℕ) (slot : ℕ) (indexed : IsIndexed seats index (free ++ slot ∷ [])) where
  pub free-slot : slot < length index
  free-slot = (empty-last index free slot indexed.empty).1

  pub seated : (at : ℕ) (s : Seat) → s.slot ≡ slot → at ≤ length seats → IsIndexed (insert seats at s) (set index slot (Some s.row.reference)) free
  seated at s same le =
      let last = empty-last index free slot indexed.empty in
      let none = unheld index seats slot last.2 indexed.held in
      let own = indexed.once slot last.1 in
      let more = times-append slot free slot in
      let one = hit-same slot slot refl in
      record {
        held = held-inserted (set index slot (Some s.row.reference)) seats at s (held-elsewhere index slot (Some s.row.reference) seats none indexed.held)
            (ap (λ i. get_or (set index slot (Some s.row.reference)) i None) same ∙ get_or-set_same index slot (Some s.row.reference) None last.1);
        empty = empty-elsewhere index slot (Some s.row.reference) free (omega (arith, own, more, one, none)) last.0;
        once = λ n lt.
            let before = indexed.once n (omega (arith, lt, length-set index slot (Some s.row.reference))) in
            let added = times-inserted n seats at s le in
            let taken = times-append n free slot in
            let hits : hit n s.slot ≡ hit n slot = ap (hit n) same in
            omega (arith, before, added, taken, hits);
        count =
            let before = indexed.count in
            let sum = length-append free (slot ∷ []) in
            omega (arith, before, sum, length-inserted seats at s le, length-set index slot (Some s.row.reference));
      }

-- ---- a seat less

module _ (seats : List Seat) (index : List (Option ℕ)) (free : List ℕ) (at : ℕ) (d : Seat) (indexed : IsIndexed seats index free) (lt : at < length seats) where
  abbrev pub slot_at : ℕ
  slot_at = (get_or seats at d).slot

  pub seat-slot : slot_at < length index
  seat-slot = within index slot_at _ (held-at index seats at d indexed.held lt)

  alone : times slot_at (slots_of (remove seats at)) + times slot_at free ≡ 0
  alone =
      let own = indexed.once slot_at seat-slot in
      let parts = times-removed slot_at seats at d lt in
      let one = hit-same slot_at slot_at refl in
      omega (arith, own, parts, one)

  pub left : IsIndexed (remove seats at) (set index slot_at None) (free ++ slot_at ∷ [])
  left = record {
    held = held-elsewhere index slot_at None (remove seats at) (omega (arith, alone)) (held-removed index seats at indexed.held);
    empty = empty-append (set index slot_at None) free slot_at (empty-elsewhere index slot_at None free (omega (arith, alone)) indexed.empty)
        (omega (arith, seat-slot, length-set index slot_at None)) (get_or-set_same index slot_at None None seat-slot);
    once = λ n lt_index.
        let before = indexed.once n (omega (arith, lt_index, length-set index slot_at None)) in
        let parts = times-removed n seats at d lt in
        let more = times-append n free slot_at in
        omega (arith, before, parts, more);
    count =
        let before = indexed.count in
        let sum = length-append free (slot_at ∷ []) in
        omega (arith, before, sum, length-removed seats at lt, length-set index slot_at None);
  }

  -- another row in the seat
  pub reseated : (s : Seat) → s.slot ≡ slot_at → IsIndexed (set seats at s) (set index slot_at (Some s.row.reference)) free
  reseated s same = subst (λ l. IsIndexed l (set index slot_at (Some s.row.reference)) free) (sym (set-inserted seats at s lt)) again
    where
      le : at ≤ length (remove seats at)
      le = omega (arith, lt, length-removed seats at lt)

      again : IsIndexed (insert (remove seats at) at s) (set index slot_at (Some s.row.reference)) free
      again = record {
        held = held-inserted (set index slot_at (Some s.row.reference)) (remove seats at) at s
            (held-elsewhere index slot_at (Some s.row.reference) (remove seats at) (omega (arith, alone)) (held-removed index seats at indexed.held))
            (ap (λ i. get_or (set index slot_at (Some s.row.reference)) i None) same ∙ get_or-set_same index slot_at (Some s.row.reference) None seat-slot);
        empty = empty-elsewhere index slot_at (Some s.row.reference) free (omega (arith, alone)) indexed.empty;
        once = λ n lt_index.
            let before = indexed.once n (omega (arith, lt_index, length-set index slot_at (Some s.row.reference))) in
            let parts = times-removed n seats at d lt in
            let added = times-inserted n (remove seats at) at s le in
            let hits : hit n s.slot ≡ hit n slot_at = ap (hit n) same in
            omega (arith, before, parts, added, hits);
        count =
            let before = indexed.count in
            omega (arith, before, length-inserted (remove seats at) at s le, length-removed seats at lt, length-set index slot_at (Some s.row.reference));
      }

  -- a row with the same reference
  pub unmoved : (s : Seat) → s.slot ≡ slot_at → s.row.reference ≡ (get_or seats at d).row.reference → IsIndexed (set seats at s) index free
  unmoved s same reference =
      let was = held-at index seats at d indexed.held lt in
      let stays : set index slot_at (Some s.row.reference) ≡ index = set_same index slot_at (Some s.row.reference) seat-slot (was ∙ ap Some (sym reference)) in
      subst (λ i. IsIndexed (set seats at s) i free) stays (reseated s same)
    where
      set_same : (index : List (Option ℕ)) (slot : ℕ) (v : Option ℕ) → slot < length index → get_or index slot None ≡ v → set index slot v ≡ index
      set_same [] slot v lt is = absurd (omega (arith, lt))
      set_same (x ∷ index) zero v lt is = ap (λ y. y ∷ index) (sym is)
      set_same (x ∷ index) (suc slot) v lt is = ap (λ rest. x ∷ rest) (set_same index slot v (omega (arith, lt)) is)

-- ---- a slot more

pub slot-more : (seats : List Seat) (index : List (Option ℕ)) (free : List ℕ) → IsIndexed seats index free → IsIndexed seats (index ++ None ∷ []) (free ++ length index ∷ [])
slot-more seats index free indexed =
    let sum = length-append index (None ∷ []) in
    let many = length-append free (length index ∷ []) in
    record {
      held = held-more index seats indexed.held;
      empty = empty-append (index ++ None ∷ []) free (length index) (empty-more index free indexed.empty) (omega (arith, sum)) (last index);
      once = λ n lt.
          let more = times-append n free (length index) in
          elim (cases_eq (length index) n) as (λ _. times n (slots_of seats) + times n (free ++ length index ∷ []) ≡ 1) [
            | inl same ↦
                let none = unheld index seats n (get_or_past index n None (omega (arith, same))) indexed.held in
                let out = empty-out index free n (omega (arith, same)) indexed.empty in
                let one = hit-same n (length index) same in
                omega (arith, more, none, out, one)
            | inr ne ↦
                let ne : length index ≢ n = ne in
                let before = indexed.once n (omega (arith, lt, sum)) in
                let zero_hit = hit-other n (length index) ne in
                omega (arith, more, before, zero_hit)
          ];
      count = let before = indexed.count in omega (arith, before, sum, many);
    }
  where
    last : (index : List (Option ℕ)) → get_or (index ++ None ∷ []) (length index) None ≡ None
    last [] = refl
    last (x ∷ index) = last index

-- nobody and no slots
pub nobody : IsIndexed [] [] []
nobody = record { held = tt; empty = tt; once = λ n lt. absurd (omega (arith, lt)); count = refl }
