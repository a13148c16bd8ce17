-- How a key comes back from a text, and how a document is reached.
use Rattle.std.specs.Prelude.{◌≡◌, ◌⊎◌, ◌≤◌, ℕ, List, ◌++◌, length, map, Some, Result, Ok, Err}
use Rattle.fluid_turn.specs.declared.view.Numbered.{Numbered}
use Rattle.fluid_turn.specs.Entries.{IsPrefix, by_seat, entries}
use Rattle.fluid_types.specs.Forms.{largest}
use Rattle.fluid_opening.specs.declared.fault.DoorFault.{DoorFault}
use Rattle.fluid_opening.specs.declared.shelf.ShelfStep.{ShelfStep}
use Rattle.fluid_opening.specs.Steps.{visit_steps, IsAnswer}
use Rattle.fluid_talk.specs.Talking.{Knowing, Keyed, IsSameKey, IsServed}

-- it has no step of its own more
pub record KeepsKey (k m : Keyed) : Type 0 where
  pub same : IsSameKey k m
  pub seen : IsPrefix k.seen m.seen
  pub mine : m.mine ≡ k.mine

-- The service was asked for the document of this name, and this was the answer. It found the shelf's whole list, which begins with all
-- that the key had seen, and added to it what such an answer adds; these steps are the key's own, and the last that it has seen. The
-- answer is the one by the list
pub record AsksFor (name : List ℕ) (answer : Result (Unit {0}) DoorFault) (k m : Keyed) : Type 0 where
  pub same : IsSameKey k m
  pub before : List (Numbered ShelfStep)
  pub begins : IsPrefix k.seen before
  pub seen : m.seen ≡ before ++ map (by_seat k.number) (visit_steps name answer (entries before))
  pub mine : m.mine ≡ k.mine ++ visit_steps name answer (entries before)
  pub few : length m.seen ≤ largest
  pub is : IsAnswer k.told name answer (entries before)

-- a door of the document was given, or none
abbrev pub OpensFor : List ℕ → Keyed → Keyed → Type 0
OpensFor name k m = AsksFor name (Ok tt) k m

abbrev pub IsRefusedDoor : List ℕ → DoorFault → Keyed → Keyed → Type 0
IsRefusedDoor name fault k m = AsksFor name (Err fault) k m

-- ---- how a document is reached

-- by a split of the pass that was handed in, where that is one of this document. The key isn't asked
pub record SplitsHanded (name : List ℕ) (handed p : Knowing) (k m : Keyed) : Type 0 where
  pub named : handed.name ≡ Some name
  pub limits : p.limits ≡ handed.limits
  pub told : p.told ≡ handed.told
  pub key : m ≡ k

-- or by the service
pub record OpensDoor (name : List ℕ) (p : Knowing) (k m : Keyed) : Type 0 where
  pub opens : OpensFor name k m
  pub served : IsServed k p

abbrev pub IsReachedBy : List ℕ → (handed p : Knowing) → (k m : Keyed) → Type 0
IsReachedBy name handed p k m = SplitsHanded name handed p k m ⊎ OpensDoor name p k m
