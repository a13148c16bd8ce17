-- What it means that a summary tree stands under an id.
use Rattle.std.specs.Prelude.{◌≡◌, ℕ, length, List, [], ◌∷◌, Option, Some, None, option_and_then}
use Rattle.std.specs.Result.{result_ok}
use Rattle.std.specs.FinMap.{get}
use Rattle.fluid_tree.specs.Names.{first_refused}
use Rattle.fluid_tree.specs.Summary.{Summary, blob, tree, handle, Children, no_children, child, names, is_tree}
use Rattle.fluid_tree.specs.Object.{tree_bytes, object_bytes}
use Rattle.fluid_tree.specs.Reading.{object_read}
use Rattle.fluid_tree.specs.declared.object.Object.{Object}
use Rattle.fluid_tree.specs.declared.object.Object.TheVariants.{Blob}
use Rattle.fluid_tree.specs.declared.object.ObjectEntry.{ObjectEntry}
use Rattle.fluid_store.specs.Held.{Held}

-- the node stands under the id: the bytes of its own object are held there. A tree has one where none of its names is
-- refused, by itself or as one that stood before. The entries of a tree's object have the names and the modes of its
-- nodes, and ids of 20 bytes under which these stand. A handle has no object
abbrev mutual
  pub Stands : Held → List ℕ → Summary → Type 0
  Stands held id (blob content) = get held id ≡ Some (object_bytes (Blob content))
  Stands held id (tree nodes) =
      (first_refused [] (names nodes) ≡ None) × ((entries : List ObjectEntry) × ((get held id ≡ Some (tree_bytes entries)) × AllStand held entries nodes))
  Stands held id (handle path) = ⊥

  pub AllStand : Held → List ObjectEntry → Children → Type 0
  AllStand held [] no_children = Unit {0}
  AllStand held [] (child name node nodes) = ⊥
  AllStand held (entry ∷ entries) no_children = ⊥
  AllStand held (entry ∷ entries) (child name node nodes) =
      (entry.name ≡ name) × ((entry.tree ≡ is_tree node) × ((length entry.id ≡ 20) × (Stands held entry.id node × AllStand held entries nodes)))

-- the object that is held under the id, where its bytes are one of the grammar
abbrev pub object_at : Held → List ℕ → Option Object
object_at held id = option_and_then (λ bytes. result_ok (object_read bytes)) (get held id)
