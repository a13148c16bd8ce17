-- A door with a pass of it, and the visits of the open documents.
use Rattle.std.specs.Prelude.{◌≡◌, ⊤, ℕ, Bool, true, false, List, [], ◌∷◌, ◌++◌, map, if◌then◌else◌, Option, Some, None, Result, Ok, Err}
use Rattle.std.specs.Str.{bytes_eq}
use Rattle.fluid_turn.specs.Seats.{IsNew}
use Rattle.fluid_json.specs.declared.memory.NoMemory.{NoMemory}
use Rattle.fluid_doors.specs.Terms.{Doorway}
use Rattle.fluid_doors.specs.Passing.{APass}
pub use Rattle.fluid_opening.specs.Steps.{is_among}

pub record Visiting : Type 0 where
  pub door : Doorway
  pub pass : APass

abbrev pub name_of : Visiting → List ℕ
name_of visit = visit.door.name

-- a second visit of the same document: its pass is another one of the door, which has seen as much and has no steps of its own
pub record IsSplitOf (first second : Visiting) : Type 0 where
  pub door : second.door ≡ first.door
  pub together : second.pass.turn ≡ second.door.turn
  pub pass : IsNew first.pass.seen second.pass

-- ---- visits by name

-- visits in the order in which they came, and for how many more there is room already
pub record Enrolled : Type 0 where
  pub visits : List Visiting
  pub spare : ℕ

-- the visits of rows, which have texts as keys
abbrev pub visits_of : {T : Type 0} → List (T × (List ℕ × Visiting)) → List Visiting
visits_of rows = map (λ row. row.1.1) rows

-- each row has the name of its visit, and its text as the key
abbrev pub AreNamed : {T : Type 0} → (T → List ℕ) → List (T × (List ℕ × Visiting)) → Type 0
AreNamed text [] = ⊤
AreNamed text (row ∷ rows) = ((text row.0 ≡ row.1.0) × (row.1.0 ≡ name_of row.1.1)) × AreNamed text rows

-- the last visit was taken out with its name, or there was none
abbrev pub TakesLast : List Visiting → List Visiting → Option (List ℕ × Visiting) → Type 0
TakesLast old new None = (old ≡ []) × (new ≡ old)
TakesLast old new (Some (name, visit)) = (old ≡ new ++ visit ∷ []) × (name ≡ name_of visit)

-- the visit under a name
abbrev pub find_visit : List ℕ → List Visiting → Option Visiting
find_visit name [] = None
find_visit name (visit ∷ visits) = if bytes_eq name (name_of visit) then Some visit else find_visit name visits

-- one is found where there is one, and it is split; want of memory comes nowhere else
abbrev pub FindsVisit : Option Visiting → Result (Option Visiting) NoMemory → Type 0
FindsVisit None (Ok None) = ⊤
FindsVisit (Some own) (Ok (Some visit)) = IsSplitOf own visit
FindsVisit (Some own) (Err refused) = ⊤
FindsVisit own other = ⊥

-- a visit is found exactly where the document is open; want of memory comes nowhere else
abbrev pub IsFound : {A : Type 0} → Bool → Result (Option A) NoMemory → Type 0
IsFound true (Ok None) = ⊥
IsFound true other = ⊤
IsFound false (Ok None) = ⊤
IsFound false other = ⊥
