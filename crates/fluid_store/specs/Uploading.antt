-- A whole summary tree put into a store.
use Rattle.std.specs.Prelude.{◌≡◌, ℕ, length, List, ◌++◌, Option, Some, None, Result, Ok, Err, IfOk, ⊤}
use Rattle.fluid_io.specs.Causes.{Tells}
use Rattle.fluid_tree.specs.Summary.{Summary}
use Rattle.fluid_store.specs.Held.{Held}
use Rattle.fluid_store.specs.Storing.{Storing}
use Rattle.fluid_store.specs.Keeping.{IsNoted, Adds, Clashes}
use Rattle.fluid_handles.specs.Resolved.{resolved}
use Rattle.fluid_store.specs.Standing.{Stands}
use Rattle.fluid_store.specs.Fetching.{fetched}
use Rattle.fluid_store.specs.Parts.{part_over}
use Rattle.fluid_store.specs.declared.fault.StoreFault.{StoreFault}
use Rattle.fluid_store.specs.declared.fault.StoreFault.TheVariants.{StoreFailed, Clash, Missing, BadObject, Tree, NoPath, NoMemory}
use Rattle.fluid_store.specs.declared.listing.Part.{Part}
use Rattle.fluid_store.specs.declared.listing.StoredObject.{StoredObject}

-- what a call that looks a tree over answers of what is held, where the store tells it. A fault of the store is noted, and memory may
-- be wanting at any place
abbrev pub Lists : {A : Type 0} → (Held → Result A StoreFault) → Storing → Storing → Result A StoreFault → Type 0
Lists answer old new (Ok a) = Tells old.content (λ held. Ok a ≡ answer held)
Lists answer old new (Err (StoreFailed note)) = IsNoted old new note
Lists answer old new (Err (Clash id kept bytes)) = ⊥
Lists answer old new (Err (Missing id)) = Tells old.content (λ held. Err (Missing id) ≡ answer held)
Lists answer old new (Err (BadObject id place)) = Tells old.content (λ held. Err (BadObject id place) ≡ answer held)
Lists answer old new (Err (Tree fault)) = Tells old.content (λ held. Err (Tree fault) ≡ answer held)
Lists answer old new (Err (NoPath path)) = Tells old.content (λ held. Err (NoPath path) ≡ answer held)
Lists answer old new (Err NoMemory) = ⊤

-- this is the part of the tree, where the store tells what it holds
abbrev pub IsPart : Option (List ℕ) → Summary → Storing → Part → Type 0
IsPart base node old part = Tells old.content (λ held. Ok part ≡ part_over held base node)

-- the earlier tree that is read under an id, if there is one
abbrev pub IsEarlier : Held → Option (List ℕ) → Option Summary → Type 0
IsEarlier held None None = Unit {0}
IsEarlier held None (Some earlier) = ⊥
IsEarlier held (Some id) None = ⊥
IsEarlier held (Some id) (Some earlier) = fetched held 32 id ≡ Ok earlier

-- the id of an earlier tree, if there is one, has 20 bytes
abbrev pub IsSizedIf : Option (List ℕ) → Type 0
IsSizedIf None = Unit {0}
IsSizedIf (Some id) = length id ≡ 20

-- under the id stands the tree with the nodes of the earlier one in the places of its handles
abbrev pub StandsResolved : Held → Option Summary → Summary → List ℕ → Type 0
StandsResolved held earlier node id = (whole : Summary) × ((resolved earlier node ≡ Ok whole) × Stands held id whole)

-- its objects were added
pub record Uploaded (base : Option (List ℕ)) (node : Summary) (old new : Storing) (id : List ℕ) : Type 0 where
  pub part : Part
  pub is_part : IsPart base node old part
  pub is_id : id ≡ part.place.id
  pub adds : Adds part.objects old.content new.content

-- those before one of them were added, and under its id other bytes were held then
pub record ClashesIn (base : Option (List ℕ)) (node : Summary) (old new : Storing) (id kept bytes : List ℕ) : Type 0 where
  pub part : Part
  pub is_part : IsPart base node old part
  pub clashes : Clashes part.objects old.content new.content id kept bytes

-- some of them from the front were added, perhaps none
pub record AddsSome (base : Option (List ℕ)) (node : Summary) (old new : Storing) : Type 0 where
  pub prefix : List StoredObject
  pub adds : Adds prefix old.content new.content
  pub are_first : Tells old.content (λ held. IfOk (part_over held base node) (λ part. (behind : List StoredObject) × (part.objects ≡ prefix ++ behind)))

-- the tree is refused by this fault, and nothing was put
pub record Refused (base : Option (List ℕ)) (node : Summary) (old new : Storing) (fault : StoreFault) : Type 0 where
  pub is_fault : Tells old.content (λ held. Err fault ≡ part_over held base node)
  pub same : new.content ≡ old.content

-- an upload over the earlier tree of this id, if there is one, by its answer
abbrev pub Uploads : Option (List ℕ) → Summary → Storing → Storing → Result (List ℕ) StoreFault → Type 0
Uploads base node old new (Ok id) = Uploaded base node old new id
Uploads base node old new (Err (StoreFailed note)) = IsNoted old new note × AddsSome base node old new
Uploads base node old new (Err (Clash id kept bytes)) = ClashesIn base node old new id kept bytes
Uploads base node old new (Err (Missing id)) = Refused base node old new (Missing id)
Uploads base node old new (Err (BadObject id place)) = Refused base node old new (BadObject id place)
Uploads base node old new (Err (Tree fault)) = Refused base node old new (Tree fault)
Uploads base node old new (Err (NoPath path)) = Refused base node old new (NoPath path)
Uploads base node old new (Err NoMemory) = AddsSome base node old new
