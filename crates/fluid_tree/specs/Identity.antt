-- The id of a summary tree: that of its own object, whose entries have the ids of the nodes below.
use Rattle.std.specs.Prelude.{ℕ, zero, suc, List, [], ◌∷◌, Option, Some, None, Result, Ok, Err}
use Rattle.sha1.specs.Sha1.{sha1}
use Rattle.fluid_tree.specs.Summary.{Summary, blob, tree, handle, Children, no_children, child, names, is_tree}
use Rattle.fluid_tree.specs.Names.{first_refused}
use Rattle.fluid_tree.specs.Object.{object_id, tree_bytes}
use Rattle.fluid_tree.specs.declared.object.Object.TheVariants.{Blob}
use Rattle.fluid_tree.specs.declared.object.ObjectEntry.{ObjectEntry}
use Rattle.fluid_tree.specs.declared.fault.TreeFault.{TreeFault}
use Rattle.fluid_tree.specs.declared.fault.TreeFault.TheVariants.{BadName, TooDeep, HandleLeft}

-- the first fault ends the walk
infixl 1 ◌>>=◌
abbrev pub ◌>>=◌ : {A B : Type 0} → Result A TreeFault → (A → Result B TreeFault) → Result B TreeFault
Ok a >>= f = f a
Err e >>= f = Err e

-- the names of a tree, where none is refused
abbrev pub unrefused : Option (List ℕ) → Result (Unit {0}) TreeFault
unrefused None = Ok tt
unrefused (Some name) = Err (BadName name)

abbrev pub blob_id : List ℕ → Result (List ℕ) TreeFault
blob_id content = Ok (object_id (Blob content))

-- `levels` more trees may stand inside one another
unfoldable mutual
  pub id_within : ℕ → Summary → Result (List ℕ) TreeFault
  id_within levels (blob content) = blob_id content
  id_within levels (handle path) = Err (HandleLeft path)
  id_within zero (tree cs) = Err TooDeep
  id_within (suc levels) (tree cs) = unrefused (first_refused [] (names cs)) >>= λ ok. entries_within levels cs >>= λ entries. Ok (sha1 (tree_bytes entries))

  -- the entries of these nodes, each with its id
  pub entries_within : ℕ → Children → Result (List ObjectEntry) TreeFault
  entries_within levels no_children = Ok []
  entries_within levels (child n s cs) = id_within levels s >>= λ i. entries_within levels cs >>= λ entries. Ok (record { name = n; tree = is_tree s; id = i } ∷ entries)

abbrev pub tree_id : ℕ → Children → Result (List ℕ) TreeFault
tree_id levels cs = unrefused (first_refused [] (names cs)) >>= λ ok. entries_within levels cs >>= λ entries. Ok (sha1 (tree_bytes entries))

-- at most 32 trees stand inside one another
abbrev pub id_answer : Summary → Result (List ℕ) TreeFault
id_answer = id_within 32
