-- Seats and the index of their references, for private clauses.
use Rattle.std.specs.Prelude.{◌≡◌, ℕ, ◌+◌, ◌<◌, ◌≤◌, nat_eq, if◌then◌else◌, List, [], ◌∷◌, length, map, Option, None, Some}
use Rattle.fluid_table.specs.Keyed.{IsInOrder}
use Rattle.fluid_clients.specs.declared.table.Row.{Row}
use Rattle.fluid_clients.specs.declared.table.Seat.{Seat}
use Rattle.fluid_clients.specs.Table.{row_up_to}
use Rattle.fluid_clients.specs.Index.{Holds}
use Rattle.std.specs.Prelude.{slice_index_or}

abbrev pub id_of : Seat → List ℕ
id_of seat = seat.id

abbrev pub row_of : Seat → Row
row_of seat = seat.row

abbrev pub seat_up_to : ℕ → Seat → Seat
seat_up_to most seat = record seat { row = row_up_to most seat.row }

abbrev pub slots_of : List Seat → List ℕ
slots_of seats = map (λ seat. seat.slot) seats

-- how often a number stands in a list
abbrev pub times : ℕ → List ℕ → ℕ
times n [] = 0
times n (x ∷ xs) = (if nat_eq x n then 1 else 0) + times n xs

-- each seat's slot holds its reference
abbrev pub AreHeld : List (Option ℕ) → List Seat → Type 0
AreHeld index [] = Unit {0}
AreHeld index (seat ∷ seats) = Holds index seat.slot seat.row.reference × AreHeld index seats

-- the slots are there and hold nothing
abbrev pub AreEmpty : List (Option ℕ) → List ℕ → Type 0
AreEmpty index [] = Unit {0}
AreEmpty index (slot ∷ slots) = ((slot < length index) × (slice_index_or index slot None ≡ None)) × AreEmpty index slots

-- each slot is that of one seat, whose reference it holds, or is free
pub record IsIndexed (seats : List Seat) (index : List (Option ℕ)) (free : List ℕ) : Type 0 where
  pub held : AreHeld index seats
  pub empty : AreEmpty index free
  pub once : (slot : ℕ) → slot < length index → times slot (slots_of seats) + times slot free ≡ 1
  pub count : length seats + length free ≡ length index

-- the seats are in order and indexed, and for each slot there is room for a seat, and in the list of free slots
pub record AreSeated (seats : List Seat) (index : List (Option ℕ)) (free : List ℕ) (room more : ℕ) : Type 0 where
  pub order : IsInOrder id_of row_of seats
  pub indexed : IsIndexed seats index free
  pub seated : length index ≤ room
  pub freed : length index ≤ more
