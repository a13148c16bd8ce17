-- What it means that all of a tree is held.
use Rattle.std.specs.Prelude.{◌≡◌, ℕ, ◌≤◌, zero, suc, List, map, Bool, true, false, IsSome, Option, Some, None, Result, Ok, Err}
use Rattle.std.specs.BTreeSet.{BTreeSet}
use Rattle.std.specs.FinMap.{get}
use Rattle.std.specs.List.{list_all}
use Rattle.fluid_io.specs.Causes.{Tells}
use Rattle.fluid_tree.specs.declared.object.Object.{Object}
use Rattle.fluid_tree.specs.declared.object.Object.TheVariants.{Blob, Tree}
use Rattle.fluid_tree.specs.declared.object.ObjectEntry.{ObjectEntry}
use Rattle.fluid_store.specs.Held.{Held}
use Rattle.fluid_store.specs.Storing.{Storing, IsCounted}
use Rattle.fluid_store.specs.Keeping.{LookStops}
use Rattle.fluid_store.specs.Standing.{object_at}
use Rattle.fluid_store.specs.declared.fault.StoreFault.{StoreFault}

-- all of an object is held: where no tree may stand, that of a blob which is held in the grammar
abbrev pub is_whole_blob : Option Object → Bool
is_whole_blob None = false
is_whole_blob (Some (Blob content)) = true
is_whole_blob (Some (Tree entries)) = false

-- where trees may stand, that of a blob, and that of a tree where all below the ids of its entries is held
abbrev pub is_whole : (List ℕ → Bool) → Option Object → Bool
is_whole below None = false
is_whole below (Some (Blob content)) = true
is_whole below (Some (Tree entries)) = list_all (λ entry. below entry.id) entries

-- the object under the id and all objects below it are held in the grammar, at most so many trees inside one another
unfoldable pub is_complete : Held → (trees : ℕ) → List ℕ → Bool
is_complete held zero id = is_whole_blob (object_at held id)
is_complete held (suc trees) id = is_whole (is_complete held trees) (object_at held id)

-- whether all of the tree under the id is held, by the answer
abbrev pub CompleteSays : List ℕ → Storing → Storing → Result Bool StoreFault → Type 0
CompleteSays id old new (Ok all) = Tells old.content (λ held. all ≡ is_complete held 32 id)
CompleteSays id old new (Err fault) = LookStops old new fault

-- ---- level by level

-- all under the ids of one level is held, where so many levels are left, this one among them
abbrev pub all_complete : Held → (levels : ℕ) → List (List ℕ) → Bool
all_complete held zero ids = true
all_complete held (suc trees) ids = list_all (is_complete held trees) ids

abbrev pub ids_of : List ObjectEntry → List (List ℕ)
ids_of = map (λ entry. entry.id)

-- the entries of the object under an id, where so many more trees may stand inside one another
abbrev pub EntriesSay : (trees : ℕ) → List ℕ → Storing → Storing → Result (Option (List ObjectEntry)) StoreFault → Type 0
EntriesSay trees id old new (Ok (Some entries)) = Tells old.content (λ held. IsSome (get held id) × (is_complete held trees id ≡ all_complete held trees (ids_of entries)))
EntriesSay trees id old new (Ok None) = Tells old.content (λ held. is_complete held trees id ≡ false)
EntriesSay trees id old new (Err fault) = LookStops old new fault

pub record FindsEntries (trees : ℕ) (id : List ℕ) (old new : Storing) (result : Result (Option (List ObjectEntry)) StoreFault) : Type 0 where
  pub content : new.content ≡ old.content
  pub faults : old.faults ≤ new.faults
  pub gets : IsCounted old.gets new.gets
  pub says : EntriesSay trees id old new result

-- the ids of the next level
abbrev pub LevelSays : (trees : ℕ) → List (List ℕ) → Storing → Storing → Result (Option (BTreeSet (List ℕ))) StoreFault → Type 0
LevelSays trees level old new (Ok (Some next)) = Tells old.content (λ held. all_complete held (suc trees) level ≡ all_complete held trees next.keys)
LevelSays trees level old new (Ok None) = Tells old.content (λ held. all_complete held (suc trees) level ≡ false)
LevelSays trees level old new (Err fault) = LookStops old new fault
