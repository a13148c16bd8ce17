-- What is put for the nodes of a summary tree, handles among them.
use Rattle.std.specs.Prelude.{ℕ, zero, suc, List, [], ◌∷◌, ◌++◌, map, Bool, true, false, Option, Some, None, Result, Ok, Err}
use Rattle.sha1.specs.Sha1.{sha1}
use Rattle.fluid_tree.specs.Names.{first_refused}
use Rattle.fluid_tree.specs.Object.{object_bytes, tree_bytes, sort_key}
use Rattle.fluid_tree.specs.Summary.{Summary, blob, tree, handle, Children, no_children, child, names}
use Rattle.fluid_tree.specs.declared.object.Object.TheVariants.{Blob}
use Rattle.fluid_tree.specs.declared.object.ObjectEntry.{ObjectEntry}
use Rattle.fluid_tree.specs.declared.fault.TreeFault.{TreeFault}
use Rattle.fluid_tree.specs.declared.fault.TreeFault.TheVariants.{BadName, TooDeep, BadObject as LeavesGrammar, HandleLeft, Attachment, NoMemory as Memory, BadForm}
use Rattle.fluid_store.specs.Held.{Held}
use Rattle.fluid_store.specs.Listed.{Keyed, object_of, in_key_order, joined}
use Rattle.fluid_store.specs.Fetching.{◌>>=◌}
use Rattle.fluid_store.specs.Following.{AnEarlier, earlier_at, at_path}
use Rattle.fluid_store.specs.declared.fault.StoreFault.{StoreFault}
use Rattle.fluid_store.specs.declared.fault.StoreFault.TheVariants.{Tree, NoPath, NoMemory}
use Rattle.fluid_store.specs.declared.following.Place.{Place}
use Rattle.fluid_store.specs.declared.listing.StoredObject.{StoredObject}
use Rattle.fluid_store.specs.declared.listing.Part.{Part}

-- ---- one node: its place, and the objects that are put for it

-- objects, and a node's own one behind them
abbrev pub with_own : Bool → List StoredObject → List ℕ → Part
with_own is_tree below bytes = record { place = record { tree = is_tree; id = sha1 bytes }; objects = below ++ object_of bytes ∷ [] }

abbrev pub blob_part : List ℕ → Part
blob_part content = with_own false [] (object_bytes (Blob content))

-- the parts of a tree's nodes, under their names
abbrev pub Named : Type 0
Named = List (List ℕ × Part)

abbrev pub entry_of : List ℕ × Part → ObjectEntry
entry_of part = record { name = part.0; tree = part.1.place.tree; id = part.1.place.id }

-- the bytes of the object of a tree with these parts
abbrev pub bytes_of : Named → List ℕ
bytes_of parts = tree_bytes (map entry_of parts)

-- the objects of each part, at the key by which its entry is compared
abbrev pub keyed_parts : Named → Keyed
keyed_parts parts = map (λ part. (sort_key part.1.place.tree part.0, part.1.objects)) parts

-- a tree's own object stands behind those of its nodes, and these in the order of its entries
abbrev pub tree_part : Named → Part
tree_part parts = with_own true (joined (in_key_order (keyed_parts parts))) (bytes_of parts)

-- for a handle nothing is put
abbrev pub place_part : Place → Part
place_part place = record { place = place; objects = [] }

-- the fault of a store for one of a tree
abbrev pub refusal : TreeFault → StoreFault
refusal (BadName name) = Tree (BadName name)
refusal TooDeep = Tree TooDeep
refusal (LeavesGrammar place) = Tree (LeavesGrammar place)
refusal (HandleLeft path) = Tree (HandleLeft path)
refusal Attachment = Tree Attachment
refusal BadForm = Tree BadForm
refusal Memory = NoMemory

-- ---- a whole tree

abbrev pub Leads : Type 0
Leads = List (List ℕ) → Result Part StoreFault

abbrev pub unrefused : Option (List ℕ) → Result (Unit {0}) StoreFault
unrefused None = Ok tt
unrefused (Some name) = Err (Tree (BadName name))

-- the part of a node, where so many more trees may stand inside one another: a tree comes before its entries, and these in the order
-- in which they stand
unfoldable mutual
  pub part_within : Leads → ℕ → Summary → Result Part StoreFault
  part_within leads levels (blob content) = Ok (blob_part content)
  part_within leads levels (handle path) = leads path
  part_within leads zero (tree nodes) = Err (Tree TooDeep)
  part_within leads (suc levels) (tree nodes) = unrefused (first_refused [] (names nodes)) >>= λ ok. parts_within leads levels nodes >>= λ parts. Ok (tree_part parts)

  pub parts_within : Leads → ℕ → Children → Result Named StoreFault
  parts_within leads levels no_children = Ok []
  parts_within leads levels (child name node nodes) = part_within leads levels node >>= λ part. parts_within leads levels nodes >>= λ parts. Ok ((name, part) ∷ parts)

abbrev pub tree_within : Leads → ℕ → Children → Result Part StoreFault
tree_within leads levels nodes = unrefused (first_refused [] (names nodes)) >>= λ ok. parts_within leads levels nodes >>= λ parts. Ok (tree_part parts)

-- ---- handles

abbrev pub part_or : List (List ℕ) → Option Place → Result Part StoreFault
part_or path None = Err (NoPath path)
part_or path (Some place) = Ok (place_part place)

-- a handle stands for what its path leads to in an earlier tree. Without one it leads nowhere
abbrev pub leads_in : Held → Option AnEarlier → List (List ℕ) → Result Part StoreFault
leads_in held None path = Err (NoPath path)
leads_in held (Some earlier) path = at_path held earlier path >>= part_or path

abbrev pub earlier_if : Held → Option (List ℕ) → Result (Option AnEarlier) StoreFault
earlier_if held None = Ok None
earlier_if held (Some id) = earlier_at held id >>= λ earlier. Ok (Some earlier)

-- the part of a summary tree, over the earlier tree of this id, if there is one
abbrev pub part_over : Held → Option (List ℕ) → Summary → Result Part StoreFault
part_over held base node = earlier_if held base >>= λ earlier. part_within (leads_in held earlier) 32 node

-- the id of the tree, and the objects that are put for it
abbrev pub objects_over : Held → Option (List ℕ) → Summary → Result (List ℕ × List StoredObject) StoreFault
objects_over held base node = part_over held base node >>= λ part. Ok (part.place.id, part.objects)
