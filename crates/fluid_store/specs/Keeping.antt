-- What the calls over a store do to it.
use Rattle.std.specs.Prelude.{◌≡◌, ◌⊎◌, ◌≢◌, ℕ, ◌≤◌, List, [], ◌∷◌, ◌++◌, Option, Some, Result, Ok, Err, ⊤}
use Rattle.std.specs.Option.{option_map}
use Rattle.std.specs.FinMap.{get, insert}
use Rattle.fluid_io.specs.Causes.{Rose, Tells}
use Rattle.fluid_io.specs.declared.faults.FaultNote.{FaultNote}
use Rattle.fluid_store.specs.Held.{Held, Keeps}
use Rattle.fluid_store.specs.Storing.{Storing, IsCounted, IsPut}
use Rattle.fluid_store.specs.declared.listing.StoredObject.{StoredObject}
use Rattle.fluid_store.specs.declared.fault.StoreFault.{StoreFault}
use Rattle.fluid_store.specs.declared.fault.StoreFault.TheVariants.{StoreFailed, Clash, Missing, BadObject, Tree, NoPath, NoMemory}

-- counts never fall
pub record Counts (old new : Storing) : Type 0 where
  pub faults : old.faults ≤ new.faults
  pub gets : old.gets ≤ new.gets

-- the note of a call that failed: its two counts were read in this call, and the count rose between them
pub record IsNoted (old new : Storing) (note : FaultNote) : Type 0 where
  pub before : old.faults ≤ note.before
  pub after : note.after ≡ new.faults
  pub rose : Rose note.before note.after

-- ---- one call on the objects

-- looking ends without an answer only where the store failed or memory was wanting
abbrev pub LookStops : Storing → Storing → StoreFault → Type 0
LookStops old new (StoreFailed note) = IsNoted old new note
LookStops old new (Clash other kept bytes) = ⊥
LookStops old new (Missing other) = ⊥
LookStops old new (BadObject other place) = ⊥
LookStops old new (Tree fault) = ⊥
LookStops old new (NoPath path) = ⊥
LookStops old new NoMemory = ⊤

-- what is held under an id, or why that isn't known
abbrev pub LookSays : List ℕ → Storing → Storing → Result (Option (List ℕ)) StoreFault → Type 0
LookSays id old new (Ok found) = Tells old.content (λ held. found ≡ get held id)
LookSays id old new (Err fault) = LookStops old new fault

pub record Looks (id : List ℕ) (old new : Storing) (result : Result (Option (List ℕ)) StoreFault) : Type 0 where
  pub content : new.content ≡ old.content
  pub gets : IsCounted old.gets new.gets
  pub later : old.faults ≤ new.faults
  pub says : LookSays id old new result

-- bytes were put under an id, or why not
abbrev pub PlaceDoes : List ℕ → List ℕ → Storing → Storing → Result (Unit {0}) StoreFault → Type 0
PlaceDoes id bytes old new (Ok done) = IsPut id bytes old new
PlaceDoes id bytes old new (Err (StoreFailed note)) = IsNoted old new note × ((new.content ≡ old.content) ⊎ IsPut id bytes old new)
PlaceDoes id bytes old new (Err (Clash other kept more)) = ⊥
PlaceDoes id bytes old new (Err (Missing other)) = ⊥
PlaceDoes id bytes old new (Err (BadObject other place)) = ⊥
PlaceDoes id bytes old new (Err (Tree fault)) = ⊥
PlaceDoes id bytes old new (Err (NoPath path)) = ⊥
PlaceDoes id bytes old new (Err NoMemory) = new.content ≡ old.content

pub record Places (id bytes : List ℕ) (old new : Storing) (result : Result (Unit {0}) StoreFault) : Type 0 where
  pub gets : new.gets ≡ old.gets
  pub later : old.faults ≤ new.faults
  pub does : PlaceDoes id bytes old new result

-- the bytes that are held under the id are these, or the two clash
abbrev pub Compares : List ℕ → List ℕ → List ℕ → Result (Unit {0}) StoreFault → Type 0
Compares id kept bytes (Ok done) = kept ≡ bytes
Compares id kept bytes (Err (Clash other was is)) = (other ≡ id) × ((was ≡ kept) × ((is ≡ bytes) × (kept ≢ bytes)))
Compares id kept bytes (Err (StoreFailed note)) = ⊥
Compares id kept bytes (Err (Missing other)) = ⊥
Compares id kept bytes (Err (BadObject other place)) = ⊥
Compares id kept bytes (Err (Tree fault)) = ⊥
Compares id kept bytes (Err (NoPath path)) = ⊥
Compares id kept bytes (Err NoMemory) = ⊤

-- ---- some objects put, one after the other

-- the store with these objects put into it
abbrev pub with_all : Held → List StoredObject → Held
with_all held [] = held
with_all held (o ∷ os) = with_all (insert held o.id o.bytes) os

-- each of them is held under its id
abbrev pub Holds : Held → List StoredObject → Type 0
Holds held [] = Unit {0}
Holds held (o ∷ os) = (get held o.id ≡ Some o.bytes) × Holds held os

-- they were added, in this order: all of them are held, and what was held is held as it was
pub record Adds (os : List StoredObject) (old new : Option Held) : Type 0 where
  pub content : new ≡ option_map (λ held. with_all held os) old
  pub kept : Tells old (λ held. Keeps held (with_all held os))
  pub added : Tells old (λ held. Holds (with_all held os) os)

-- some of them from the front were added
pub record AddsPrefix (os : List StoredObject) (old new : Option Held) : Type 0 where
  pub prefix : List StoredObject
  pub behind : List StoredObject
  pub splits : os ≡ prefix ++ behind
  pub adds : Adds prefix old new

-- those before one of them were added, and under its id other bytes were held then
pub record Clashes (os : List StoredObject) (old new : Option Held) (id kept bytes : List ℕ) : Type 0 where
  pub prefix : List StoredObject
  pub behind : List StoredObject
  pub splits : os ≡ prefix ++ record { id = id; bytes = bytes } ∷ behind
  pub adds : Adds prefix old new
  pub was : Tells new (λ held. get held id ≡ Some kept)
  pub differ : kept ≢ bytes

-- what a call that adds these objects did, by its fault
abbrev pub StopsBy : List StoredObject → Storing → Storing → StoreFault → Type 0
StopsBy os old new (StoreFailed note) = IsNoted old new note × AddsPrefix os old.content new.content
StopsBy os old new (Clash id kept bytes) = Clashes os old.content new.content id kept bytes
StopsBy os old new (Missing other) = ⊥
StopsBy os old new (BadObject other place) = ⊥
StopsBy os old new (Tree fault) = ⊥
StopsBy os old new (NoPath path) = ⊥
StopsBy os old new NoMemory = AddsPrefix os old.content new.content

-- the same by the answer: at Ok all of them were added
abbrev pub Stores : {A : Type 0} → List StoredObject → Storing → Storing → Result A StoreFault → Type 0
Stores os old new (Ok done) = Adds os old.content new.content
Stores os old new (Err fault) = StopsBy os old new fault

-- the same of one object; for want of memory nothing was added
pub record StoresObject {A : Type 0} (o : StoredObject) (old new : Storing) (result : Result A StoreFault) : Type 0 where
  pub stores : Stores (o ∷ []) old new result
  pub memory : result ≡ Err NoMemory → new.content ≡ old.content
