-- What the definitions say of a store that grows, and of the smallest stores.
use Rattle.std.specs.Prelude.{◌≡◌, ℕ, zero, ◌^◌, ◌<◌, ◌≤◌, List, ◌∷◌, ◌++◌, length, true, false, Option, Some, Ok}
use Rattle.std.specs.FinMap.{empty, get, insert}
use Rattle.std.specs.Str.{IsUtf8}
use Rattle.fluid_tree.specs.Identity.{id_answer}
use Rattle.fluid_tree.specs.Object.{object_bytes}
use Rattle.fluid_tree.specs.Summary.{Summary, blob, tree, handle, Children, no_children, child, depth}
use Rattle.fluid_tree.specs.declared.object.Object.TheVariants.{Blob}
use Rattle.fluid_store.specs.Held.{Held, Keeps}
use Rattle.fluid_store.specs.Parts.{part_over}
use Rattle.fluid_store.specs.Uploading.{IsEarlier, IsSizedIf, StandsResolved}
use Rattle.fluid_store.specs.Putting.{Putting, putting}
use Rattle.fluid_store.specs.declared.listing.Part.{Part}
use Rattle.fluid_store.specs.declared.listing.StoredObject.{StoredObject}
use Rattle.fluid_store.specs.Keeping.{Holds}
use Rattle.fluid_store.specs.Listed.{own_bytes, objects}
use Rattle.fluid_store.specs.Standing.{Stands}
use Rattle.fluid_store.specs.Complete.{is_complete}
use Rattle.fluid_store.specs.Fetching.{fetched}

-- what stands goes on standing where all that is held is kept
abbrev pub GoesOnStanding : Type 0
GoesOnStanding = (old new : Held) (id : List ℕ) (node : Summary) → Keeps old new → Stands old id node → Stands new id node

-- what is complete stays complete where all that is held is kept
abbrev pub StaysComplete : Type 0
StaysComplete = (old new : Held) (trees : ℕ) (id : List ℕ) → Keeps old new → is_complete old trees id ≡ true → is_complete new trees id ≡ true

-- in an empty store nothing is complete
abbrev pub NothingIsComplete : Type 0
NothingIsComplete = (trees : ℕ) (id : List ℕ) → is_complete (empty) trees id ≡ false

-- where the bytes of a blob's object are held alone, the blob stands and is complete, with no tree round it
abbrev pub OneBlob : Type 0
OneBlob =
    (id content : List ℕ) → length content < 2 ^ 53
    → Stands (insert empty id (object_bytes (Blob content))) id (blob content) × (is_complete (insert empty id (object_bytes (Blob content))) zero id ≡ true)

-- the node that is read under an id stands there, and has no more trees inside one another than it may
abbrev pub IsFetchedStanding : Type 0
IsFetchedStanding = (held : Held) (levels : ℕ) (id : List ℕ) (node : Summary) → Ok node ≡ fetched held levels id → Stands held id node × (depth node ≤ levels)

-- each of its objects has fewer than 2 ^ 53 bytes, since a longer one isn't read, and each of its names is UTF-8
abbrev mutual
  pub IsReadable : Summary → Type 0
  IsReadable (blob content) = length (own_bytes (blob content)) < 2 ^ 53
  IsReadable (tree nodes) = (length (own_bytes (tree nodes)) < 2 ^ 53) × AllReadable nodes
  IsReadable (handle path) = Unit {0}

  pub AllReadable : Children → Type 0
  AllReadable no_children = Unit {0}
  AllReadable (child name node nodes) = IsUtf8 name × (IsReadable node × AllReadable nodes)

-- a tree whose objects are held, as they are after it was uploaded, is complete under its id
abbrev pub IsCompleteWhereHeld : Type 0
IsCompleteWhereHeld = (held : Held) (node : Summary) (id : List ℕ) → id_answer node ≡ Ok id → Holds held (objects node) → IsReadable node → is_complete held 32 id ≡ true

-- where the objects of a tree's part are added to what is held, the tree stands with its handles resolved
abbrev pub IsResolvedStanding : Type 0
IsResolvedStanding =
    (old new : Held) (base : Option (List ℕ)) (earlier : Option Summary) (node : Summary) (part : Part) → IsSizedIf base → Ok part ≡ part_over old base node → IsEarlier old base earlier
    → Keeps old new → Holds new part.objects → StandsResolved new earlier node part.place.id

-- an object that is held already may be left out of those that are put, wherever it stands: what is held then and the first clash are
-- the same
pub record IsLeftOut (with_it without : Putting) : Type 0 where
  pub held : with_it.held ≡ without.held
  pub clash : with_it.clash ≡ without.clash

abbrev pub HeldOnesAreLeftOut : Type 0
HeldOnesAreLeftOut =
    (held : Held) (before behind : List StoredObject) (object : StoredObject) → get held object.id ≡ Some object.bytes
    → IsLeftOut (putting held (before ++ object ∷ behind)) (putting held (before ++ behind))
