-- The version that a summary asks for, and the objects that are put for it.
use Rattle.std.specs.Prelude.{◌≡◌, ◌⊎◌, ℕ, ⊤, Bool, true, false, ◌&&◌, List, [], ◌∷◌, ◌++◌, map, codes, Option, Some, None, Result, Ok, Err, IfOk, IfErr, if◌then◌else◌}
use Rattle.std.specs.Option.{option_map_or}
use Rattle.fluid_io.specs.Causes.{Tells}
use Rattle.fluid_tree.specs.Summary.{Summary, blob, tree, Children, no_children, child}
use Rattle.fluid_tree.specs.Object.{object_bytes}
use Rattle.fluid_tree.specs.declared.object.Object.{Object}
use Rattle.fluid_tree.specs.declared.object.Object.TheVariants.{Blob, Tree}
use Rattle.fluid_rules.specs.Scribe.{blob_entry, tree_entry, protocol_id}
use Rattle.fluid_scribe.specs.declared.job.Job.{Job}
use Rattle.fluid_store.specs.Held.{Held}
use Rattle.fluid_store.specs.Listed.{object_of}
use Rattle.fluid_store.specs.Complete.{is_complete}
use Rattle.fluid_store.specs.Storing.{Storing}
use Rattle.fluid_store.specs.Keeping.{IsNoted, Stores}
use Rattle.fluid_store.specs.Putting.{putting, IsPutting}
use Rattle.fluid_store.specs.declared.listing.StoredObject.{StoredObject}
use Rattle.fluid_store.specs.declared.fault.StoreFault.{StoreFault}
use Rattle.fluid_store.specs.declared.fault.StoreFault.TheVariants.{StoreFailed, Clash, NoMemory}

-- ---- the objects

-- the content of a blob
abbrev pub content_of : Summary → List ℕ
content_of (blob content) = content
content_of other = []

-- the nodes with their names, each as the content of a blob
abbrev pub contents : Children → List (List ℕ × List ℕ)
contents no_children = []
contents (child name node nodes) = (name, content_of node) ∷ contents nodes

-- the blobs of the tree of `.protocol`
abbrev pub blobs_in : Summary → List (List ℕ × List ℕ)
blobs_in (tree nodes) = contents nodes
blobs_in other = []

-- the tree of a version: `.app` with this id, and `.protocol` with these blobs
abbrev pub version_tree : List ℕ → List (List ℕ × List ℕ) → Object
version_tree app blobs = Tree (tree_entry (codes ".app") app ∷ tree_entry (codes ".protocol") (protocol_id blobs) ∷ [])

-- the objects of a version in the order in which they are put: the blobs, the tree of `.protocol`, and the version's
abbrev pub version_objects : List ℕ → List (List ℕ × List ℕ) → List StoredObject
version_objects app blobs =
    map (λ b. object_of (object_bytes (Blob b.1))) blobs
    ++ object_of (object_bytes (Tree (map blob_entry blobs))) ∷ object_of (object_bytes (version_tree app blobs)) ∷ []

-- ---- a job

-- the tree of a summary is found where the answer depends on it and all of it is held
abbrev pub is_found : Held → Job → Bool
is_found held j = j.needs_storage && option_map_or (is_complete held 32) j.app false

-- the objects of the version that a job asks for
abbrev pub objects_of : Job → List StoredObject
objects_of j = option_map_or (λ app. version_objects app (blobs_in j.protocol)) j.app []

-- they are put where the tree is found
abbrev pub objects_for : Held → Job → List StoredObject
objects_for held j = if is_found held j then objects_of j else []

-- ---- what was done

-- why it wasn't done: the store failed, memory was wanting, or other bytes are held under the id of an object that is to be put
abbrev pub IsStoreCause : Storing → Storing → StoreFault → Type 0
IsStoreCause old new (StoreFailed note) = IsNoted old new note
IsStoreCause old new (Clash id kept bytes) = ⊤
IsStoreCause old new NoMemory = ⊤
IsStoreCause old new other = ⊥

-- where the store tells what it holds: it is said whether the tree was found, its version's objects were put in their order, up to
-- a clash, and what was held is held as it was
pub record PutsTold (j : Job) (old new : Storing) (result : Result Bool StoreFault) (held : Held) : Type 0 where
  pub found : IfOk result (λ found. found ≡ is_found held j)
  pub stores : Stores (objects_for held j) old new result
  pub put : IsPutting (putting held (objects_for held j)) new.content result

pub record PutsVersion (j : Job) (old new : Storing) (result : Result Bool StoreFault) : Type 0 where
  pub told : Tells old.content (PutsTold j old new result)
  pub cause : IfErr result (IsStoreCause old new)
  -- whether the store tells what it holds or not: none of the version's objects were put, or they were, in their order, up to a
  -- clash of one of them
  pub stores : Stores [] old new result ⊎ Stores (objects_of j) old new result
  -- where the answer doesn't depend on what is stored, the store isn't asked
  pub unasked : j.needs_storage ≡ false → (result ≡ Ok false) × (new ≡ old)
