-- What is known of a turn: by whoever has it, by a seat between its turns, and by a seat in its turn.
use Rattle.std.specs.Prelude.{◌≡◌, ℕ, List, [], ◌∷◌, ◌++◌}
use Rattle.atomic_table.specs.Seated.{TableId}
use Rattle.fluid_turn.specs.declared.view.Numbered.{Numbered}
use Rattle.fluid_turn.specs.Entries.{by_seat, entries, IsPrefix, IsSigned}

-- which turn it is, the list with which it began, and what never changes of the value in it
pub record Turning (E F : Type 0) : Type 0 where
  pub id : TableId
  pub began : List E
  pub fixed : F

-- a seat: its turn, its own number, the entries that it has seen, and those of them that it entered
pub record Known (E F : Type 0) : Type 0 where
  pub turn : Turning E F
  pub number : ℕ
  pub seen : List (Numbered E)
  pub mine : List E

-- a seat that has the turn, and the turn's list
pub record InTurn (E F : Type 0) : Type 0 where
  pub seat : Known E F
  pub list : List (Numbered E)

module _ {E F : Type 0} where
  -- the seat has seen this list
  abbrev pub seeing : List (Numbered E) → Known E F → Known E F
  seeing l k = record k { seen = l }

  -- the seat has entered e behind all that it had seen
  abbrev pub entering : E → Known E F → Known E F
  entering e k = record k { seen = k.seen ++ by_seat k.number e ∷ []; mine = k.mine ++ e ∷ [] }

  -- a new seat that has seen this list
  abbrev pub IsNew : List (Numbered E) → Known E F → Type 0
  IsNew l k = (k.seen ≡ l) × (k.mine ≡ [])

  -- the same seat with the same entries of its own; what it has seen begins with what it had seen
  abbrev pub SeesMore : Known E F → Known E F → Type 0
  SeesMore old new =
      (new.turn ≡ old.turn) × (new.number ≡ old.number) × (new.mine ≡ old.mine) × IsPrefix old.seen new.seen

  -- the seat has seen the whole list
  abbrev pub HasNoted : InTurn E F → Type 0
  HasNoted p = p.seat.seen ≡ p.list

  -- after a note
  abbrev pub noted : InTurn E F → InTurn E F
  noted p = record p { seat = seeing p.list p.seat }

  -- after the seat has entered e, which is the last one of the list then
  abbrev pub entered : E → InTurn E F → InTurn E F
  entered e p =
      record p { seat = entering e p.seat; list = p.list ++ by_seat p.seat.number e ∷ [] }

-- some value stood for these entries
abbrev pub Stood : {T E : Type 0} → (T → List E → Type 0) → List (Numbered E) → Type 0
Stood {T} {E} stands l = (x : T) × stands x (entries l)

-- some value stood for this list once; it begins with the entries with which the turn began, and each one behind
-- them bears its seat's number
pub record IsHistory {T E : Type 0} (stands : T → List E → Type 0) (began : List E) (l : List (Numbered E)) : Type 0 where
  pub stood : Stood stands l
  pub signed : (seats : ℕ) × IsSigned began seats l

-- the value stands for the list, and has what never changes
abbrev pub StandsFixed : {T E F : Type 0} → (T → List E → Type 0) → (T → F) → F → T → List E → Type 0
StandsFixed stands fixed f x l = stands x l × (fixed x ≡ f)

-- the list is one that this turn had, with a value in it that had what never changes
abbrev pub IsOfTurn : {T E F : Type 0} → (T → List E → Type 0) → (T → F) → Turning E F → List (Numbered E) → Type 0
IsOfTurn stands fixed turn l = IsHistory (StandsFixed stands fixed turn.fixed) turn.began l
