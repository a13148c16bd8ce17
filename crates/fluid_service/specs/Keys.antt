-- What a call on a service makes of the key that it is handed, and what it gives.
use Rattle.std.specs.Prelude.{◌≡◌, ◌≤◌, ℕ, List, [], false, ◌++◌, map, length, Option, Result, IfOk}
use Rattle.fluid_turn.specs.declared.view.Numbered.{Numbered}
use Rattle.fluid_turn.specs.Entries.{IsPrefix, by_seat, entries}
use Rattle.fluid_turn.specs.Seats.{Turning, Known}
use Rattle.fluid_types.specs.Forms.{largest}
use Rattle.fluid_opening.specs.declared.fault.DoorFault.{DoorFault}
use Rattle.fluid_opening.specs.declared.shelf.ShelfStep.{ShelfStep}
use Rattle.fluid_service.specs.declared.terms.ShelfTerms.{ShelfTerms}
use Rattle.fluid_service.specs.Visiting.{Visiting}
use Rattle.fluid_opening.specs.Steps.{IsAnswer, IsAnswerBy}
use Rattle.fluid_service.specs.Shelved.{IsServed}

-- a service is the turn of its shelf, and a key is a seat of it
abbrev pub Serving : Type 0
Serving = Turning ShelfStep ShelfTerms

abbrev pub AKey : Type 0
AKey = Known ShelfStep ShelfTerms

-- the key has entered these steps behind the whole list
abbrev pub adding : List ShelfStep → AKey → AKey
adding added k = record k { seen = k.seen ++ map (by_seat k.number) added; mine = k.mine ++ added }

-- The key m comes back for the key k. The call found the shelf's whole list, which begins with all that k had seen; of that list
-- these facts hold. It added these steps to it, which are the key's own, and they are the last that m has seen
pub record Passes (k m : AKey) (added : List ShelfStep → List ShelfStep) (holds : List ShelfStep → Type 0) : Type 0 where
  pub turn : m.turn ≡ k.turn
  pub number : m.number ≡ k.number
  pub before : List (Numbered ShelfStep)
  pub begins : IsPrefix k.seen before
  pub seen : m.seen ≡ before ++ map (by_seat k.number) (added (entries before))
  pub mine : m.mine ≡ k.mine ++ added (entries before)
  pub few : length m.seen ≤ largest
  pub says : holds (entries before)

-- the visit is one of this document, by a new pass
pub record IsVisitOf (terms : ShelfTerms) (name : List ℕ) (visit : Visiting) : Type 0 where
  pub name_is : visit.door.name ≡ name
  pub served : IsServed terms visit.door
  pub together : visit.pass.turn ≡ visit.door.turn
  pub new : visit.pass.mine ≡ []

-- the answer is the one for this name by the steps before it, and a visit is one of the document
pub record Reaches (terms : ShelfTerms) (name : List ℕ) (result : Result Visiting DoorFault) (l : List ShelfStep) : Type 0 where
  pub answer : IsAnswer terms.told name result l
  pub visit : IfOk result (IsVisitOf terms name)

-- the same of a name that isn't open, by what refuses it
pub record OpensNew (terms : ShelfTerms) (name : List ℕ) (refused : Option DoorFault) (result : Result Visiting DoorFault) : Type 0 where
  pub answer : IsAnswerBy false refused terms.told result
  pub visit : IfOk result (IsVisitOf terms name)
