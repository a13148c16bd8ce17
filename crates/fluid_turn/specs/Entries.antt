-- Lists of entries, oldest first, each entry with the number of the seat that entered it.
use Rattle.std.specs.Prelude.{◌≡◌, ◌==◌, ℕ, ◌<◌, Bool, false, Option, Some, None, List, [], ◌∷◌, ◌++◌, map, filter}
use Rattle.fluid_turn.specs.declared.view.Numbered.{Numbered}

-- the whole list begins with the prefix
abbrev pub IsPrefix : {X : Type 0} → List X → List X → Type 0
IsPrefix {X} prefix whole = (rest : List X) × (whole ≡ prefix ++ rest)

-- the number is this one; an entry with which the turn began has none
abbrev pub is_number : ℕ → Option ℕ → Bool
is_number number None = false
is_number number (Some n) = n == number

module _ {E : Type 0} where
  -- an entry that the seat of this number entered
  abbrev pub by_seat : ℕ → E → Numbered E
  by_seat number e = record { number = Some number; entry = e }

  -- an entry with which the turn began
  abbrev pub by_nobody : E → Numbered E
  by_nobody e = record { number = None; entry = e }

  -- the list with which a turn begins
  abbrev pub of_nobody : List E → List (Numbered E)
  of_nobody l = map by_nobody l

  -- the entries alone
  abbrev pub entries : List (Numbered E) → List E
  entries l = map (λ x. x.entry) l

  -- the entries that the seat of this number entered, in their order
  abbrev pub made_by : ℕ → List (Numbered E) → List E
  made_by number l = entries (filter (λ x. is_number number x.number) l)

  -- each entry bears the number of one of so many seats
  abbrev pub AllBySeats : ℕ → List (Numbered E) → Type 0
  AllBySeats seats [] = Unit {0}
  AllBySeats seats (x ∷ xs) = ((n : ℕ) × (n < seats) × (x.number ≡ Some n)) × AllBySeats seats xs

  -- the list begins with these entries of nobody, and each one behind them bears the number of one of so many seats
  abbrev pub IsSigned : List E → ℕ → List (Numbered E) → Type 0
  IsSigned began seats l = (since : List (Numbered E)) × (l ≡ of_nobody began ++ since) × AllBySeats seats since
