-- The objects of a summary tree without handles, in the order in which they are put.
use Rattle.std.specs.Prelude.{ℕ, List, [], ◌∷◌, ◌++◌, map, fold, flat_map, String, string_bytes}
use Rattle.std.specs.declared.alloc.Global.{Global}
use Rattle.std.specs.FinMap.Entries.{put}
use Rattle.sha1.specs.Sha1.{sha1}
use Rattle.fluid_tree.specs.Summary.{Summary, blob, tree, handle, Children, no_children, child, is_tree}
use Rattle.fluid_tree.specs.Object.{tree_bytes, object_bytes, sort_key}
use Rattle.fluid_tree.specs.declared.object.Object.TheVariants.{Blob}
use Rattle.fluid_tree.specs.declared.object.ObjectEntry.{ObjectEntry}
use Rattle.fluid_store.specs.Held.{byte_order}
use Rattle.fluid_store.specs.declared.listing.StoredObject.{StoredObject}

-- the bytes of a node's own object. A handle has none
unfoldable mutual
  pub own_bytes : Summary → List ℕ
  own_bytes (blob content) = object_bytes (Blob content)
  own_bytes (tree nodes) = tree_bytes (own_entries nodes)
  own_bytes (handle path) = []

  -- the entries of these nodes
  pub own_entries : Children → List ObjectEntry
  own_entries no_children = []
  own_entries (child name node nodes) = record { name = name; tree = is_tree node; id = sha1 (own_bytes node) } ∷ own_entries nodes

-- the object with these bytes
abbrev pub object_of : List ℕ → StoredObject
object_of bytes = record { id = sha1 bytes; bytes = bytes }

-- lists of objects, each at the key by which its entry is compared
abbrev pub Keyed : Type 0
Keyed = List (List ℕ × List StoredObject)

-- in byte order of the keys
abbrev pub in_key_order : Keyed → Keyed
in_key_order = fold (λ sorted one. put byte_order one.0 one.1 sorted) []

-- one behind the other
abbrev pub joined : Keyed → List StoredObject
joined = flat_map (λ one. one.1)

-- a tree's own object stands behind those of its nodes, and these in the order of its entries
unfoldable mutual
  pub objects : Summary → List StoredObject
  objects (blob content) = object_of (own_bytes (blob content)) ∷ []
  objects (tree nodes) = joined (in_key_order (keyed nodes)) ++ object_of (own_bytes (tree nodes)) ∷ []
  objects (handle path) = []

  -- the objects of each of these nodes, at the key of its entry
  pub keyed : Children → Keyed
  keyed no_children = []
  keyed (child name node nodes) = (sort_key (is_tree node) name, objects node) ∷ keyed nodes

-- the lists in a map from texts
abbrev pub keyed_of : List (String Global × List StoredObject) → Keyed
keyed_of = map (λ one. (string_bytes one.0, one.1))
