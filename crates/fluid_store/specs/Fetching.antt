-- What is read back from a store.
use Rattle.std.specs.Prelude.{◌≡◌, ℕ, zero, suc, ◌≤◌, List, [], ◌∷◌, Bool, true, false, not, Option, Some, None, if◌then◌else◌, Result, Ok, Err, ⊤}
use Rattle.std.specs.FinMap.{get}
use Rattle.fluid_io.specs.Causes.{Tells}
use Rattle.fluid_tree.specs.Summary.{Summary, blob, tree, Children, no_children, child}
use Rattle.fluid_tree.specs.Object.{is_tree_object}
use Rattle.fluid_tree.specs.Reading.{object_read}
use Rattle.fluid_tree.specs.declared.object.Object.{Object}
use Rattle.fluid_tree.specs.declared.object.Object.TheVariants.{Blob, Tree}
use Rattle.fluid_tree.specs.declared.object.ObjectEntry.{ObjectEntry}
use Rattle.fluid_tree.specs.declared.fault.TreeFault.{TreeFault}
use Rattle.fluid_tree.specs.declared.fault.TreeFault.TheVariants.{BadName, TooDeep, BadObject as LeavesGrammar, HandleLeft, Attachment, NoMemory as Memory, BadForm}
use Rattle.fluid_store.specs.Held.{Held}
use Rattle.fluid_store.specs.Storing.{Storing, IsCounted}
use Rattle.fluid_store.specs.Keeping.{IsNoted}
use Rattle.fluid_store.specs.declared.fault.StoreFault.{StoreFault}
use Rattle.fluid_store.specs.declared.fault.StoreFault.TheVariants.{StoreFailed, Clash, Missing, BadObject, Tree as OfTree, NoPath, NoMemory}

-- ---- what is read of the bytes that are held

-- the first fault ends the reading
infixl 1 ◌>>=◌
abbrev pub ◌>>=◌ : {A B : Type 0} → Result A StoreFault → (A → Result B StoreFault) → Result B StoreFault
Ok a >>= f = f a
Err e >>= f = Err e

-- the fault of bytes under an id that aren't an object: the place where they leave the grammar
abbrev pub misread : List ℕ → TreeFault → StoreFault
misread id (BadName name) = OfTree (BadName name)
misread id TooDeep = OfTree TooDeep
misread id (LeavesGrammar place) = BadObject id place
misread id (HandleLeft path) = OfTree (HandleLeft path)
misread id Attachment = OfTree Attachment
misread id BadForm = OfTree BadForm
misread id Memory = NoMemory

abbrev pub read_as : List ℕ → Result Object TreeFault → Result Object StoreFault
read_as id (Ok object) = Ok object
read_as id (Err fault) = Err (misread id fault)

-- the object that these bytes under an id are
abbrev pub found_as : List ℕ → Option (List ℕ) → Result Object StoreFault
found_as id None = Err (Missing id)
found_as id (Some bytes) = read_as id (object_read bytes)

-- the object under an id
abbrev pub found : Held → List ℕ → Result Object StoreFault
found held id = found_as id (get held id)

-- the object is a tree's where the mode is, and a blob's where that is
abbrev pub is_of_kind : Bool → Object → Bool
is_of_kind true object = is_tree_object object
is_of_kind false object = not (is_tree_object object)

-- the node of an entry: its object is looked up, is of the kind that the entry's mode says, and is read by `node`
abbrev pub child_by : Held → (Object → Result Summary StoreFault) → ObjectEntry → Result Summary StoreFault
child_by held node entry = found held entry.id >>= λ object. if is_of_kind entry.tree object then node object else Err (BadObject entry.id 0)

-- the nodes of the entries, one after the other, with their names
abbrev pub nodes_by : (ObjectEntry → Result Summary StoreFault) → List ObjectEntry → Result Children StoreFault
nodes_by node [] = Ok no_children
nodes_by node (entry ∷ entries) = do
  s ← node entry
  nodes ← nodes_by node entries
  Ok (child entry.name s nodes)

abbrev pub tree_by : (ObjectEntry → Result Summary StoreFault) → List ObjectEntry → Result Summary StoreFault
tree_by node entries = do
  nodes ← nodes_by node entries
  Ok (tree nodes)

-- the node whose own object this is, where so many more trees may stand inside one another
unfoldable pub node_within : Held → (levels : ℕ) → Object → Result Summary StoreFault
node_within held levels (Blob content) = Ok (blob content)
node_within held zero (Tree entries) = Err (OfTree TooDeep)
node_within held (suc levels) (Tree entries) = tree_by (child_by held (node_within held levels)) entries

-- the node under an id, of at most so many trees inside one another
abbrev pub fetched : Held → (levels : ℕ) → List ℕ → Result Summary StoreFault
fetched held levels id = found held id >>= node_within held levels

-- ---- what a call that reads does

-- nothing that is held has changed, and counts haven't fallen
pub record Reads (old new : Storing) : Type 0 where
  pub content : new.content ≡ old.content
  pub faults : old.faults ≤ new.faults
  pub gets : old.gets ≤ new.gets

-- it answers this of what is held, where the store tells it. A fault of the store is noted, and memory may be wanting at
-- any place
abbrev pub Answers : {A : Type 0} → (Held → Result A StoreFault) → Storing → Storing → Result A StoreFault → Type 0
Answers answer old new (Ok a) = Tells old.content (λ held. Ok a ≡ answer held)
Answers answer old new (Err (StoreFailed note)) = IsNoted old new note
Answers answer old new (Err (Missing id)) = Tells old.content (λ held. Err (Missing id) ≡ answer held)
Answers answer old new (Err (BadObject id place)) = Tells old.content (λ held. Err (BadObject id place) ≡ answer held)
Answers answer old new (Err (OfTree fault)) = Tells old.content (λ held. Err (OfTree fault) ≡ answer held)
Answers answer old new (Err (Clash id kept bytes)) = ⊥
Answers answer old new (Err (NoPath path)) = ⊥
Answers answer old new (Err NoMemory) = ⊤

-- an object was looked up by one get
pub record Finds (id : List ℕ) (old new : Storing) (result : Result Object StoreFault) : Type 0 where
  pub content : new.content ≡ old.content
  pub faults : old.faults ≤ new.faults
  pub gets : IsCounted old.gets new.gets
  pub says : Answers (λ held. found held id) old new result
