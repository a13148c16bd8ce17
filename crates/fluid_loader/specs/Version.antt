-- What the version of a summary says: the tree of `.app` and `.protocol`, read object by object.
use Rattle.std.specs.Prelude.{◌≡◌, ◌⊎◌, ℕ, zero, suc, ◌==◌, List, [], ◌∷◌, ◌++◌, map, Option, Some, None, Result, Ok, Err, if◌then◌else◌, bytes_eq, codes}
use Rattle.std.specs.Ordering.{is_lt}
use Rattle.fluid_table.specs.Table.{byte_order}
use Rattle.fluid_tree.specs.Summary.{Summary, blob, tree, handle, Children, no_children, child, children, is_tree}
use Rattle.fluid_tree.specs.declared.object.Object.{Object}
use Rattle.fluid_tree.specs.declared.object.Object.TheVariants.{Blob, Tree}
use Rattle.fluid_tree.specs.declared.object.ObjectEntry.{ObjectEntry}
use Rattle.fluid_tree.specs.declared.id.SummaryRef.{SummaryRef}
use Rattle.fluid_types.specs.Quorum.{Quorum}
use Rattle.fluid_types.specs.declared.fault.BlobFault.{BlobFault}
use Rattle.fluid_types.specs.declared.fault.BlobFault.TheVariants.{BadBlob, NoMemory}
use Rattle.fluid_edits.specs.Replay.{Channels}
use Rattle.fluid_runtime.specs.AppTree as app
use Rattle.fluid_quorum.specs.Reading as quorum
use Rattle.fluid_store.specs.Held.{Held}
use Rattle.fluid_store.specs.Standing.{object_at}

-- ---- the tree as far as its form reaches

-- what isn't held, or is held in another form than the mode says, stands as a handle, which no form has
abbrev pub no_node : Summary
no_node = handle []

abbrev pub as_leaf : Option Object → Summary
as_leaf None = no_node
as_leaf (Some (Blob content)) = blob content
as_leaf (Some (Tree entries)) = no_node

abbrev pub as_inner : (ObjectEntry → Summary) → Option Object → Summary
as_inner node None = no_node
as_inner node (Some (Blob content)) = no_node
as_inner node (Some (Tree entries)) = tree (children (map (λ e. (e.name, node e)) entries))

-- the node of an entry, where so many more trees may stand inside one another
unfoldable pub node_within : Held → (levels : ℕ) → ObjectEntry → Summary
node_within held zero entry = if entry.tree then no_node else as_leaf (object_at held entry.id)
node_within held (suc levels) entry = if entry.tree then as_inner (node_within held levels) (object_at held entry.id) else as_leaf (object_at held entry.id)

abbrev pub nodes_within : Held → ℕ → List ObjectEntry → List (List ℕ × Summary)
nodes_within held levels entries = map (λ e. (e.name, node_within held levels e)) entries

-- ---- which objects stand in it

-- one of the entries has such an id
abbrev pub HasId : (List ℕ → Type 0) → List ObjectEntry → Type 0
HasId inside [] = ⊥
HasId inside (e ∷ es) = inside e.id ⊎ HasId inside es

abbrev pub IsBelow : (List ℕ → Type 0) → Option Object → Type 0
IsBelow inside None = ⊥
IsBelow inside (Some (Blob content)) = ⊥
IsBelow inside (Some (Tree entries)) = HasId inside entries

-- the id is that of an object in the tree under the root, at most so many entries deep
abbrev pub IsIn : Held → (levels : ℕ) → List ℕ → List ℕ → Type 0
IsIn held zero id root = id ≡ root
IsIn held (suc levels) id root = (id ≡ root) ⊎ IsBelow (IsIn held levels id) (object_at held root)

-- the object is one of the version of the summary, where there is one
abbrev pub IsOfVersion : Held → Option SummaryRef → List ℕ → Type 0
IsOfVersion held None id = ⊥
IsOfVersion held (Some summary) id = IsIn held 3 id summary.handle

-- ---- what it says, or the path of the first object, in the order of the tree, that isn't held or is outside its form

infixl 1 ◌>>=◌
abbrev pub ◌>>=◌ : {A B : Type 0} → Result A (List ℕ) → (A → Result B (List ℕ)) → Result B (List ℕ)
Ok a >>= f = f a
Err path >>= f = Err path

-- the path of what stands under a name, or of this itself
abbrev pub under : List ℕ → List ℕ → List ℕ
under name path = if bytes_eq path [] then name else name ++ (codes "/" ++ path)

-- a fault of a blob under a name
abbrev pub blob_under : {A : Type 0} → List ℕ → Result A BlobFault → Result A (List ℕ)
blob_under name (Ok a) = Ok a
blob_under name (Err (BadBlob path)) = Err (under name path)
blob_under name (Err NoMemory) = Err name

-- of another entry and the tree that is wanted, the one that stands first; the wanted one is missing then, or stands behind
abbrev pub first_of : List ℕ → List ℕ → List ℕ
first_of name wanted = if is_lt (byte_order name (wanted ++ codes "/")) then name else wanted

-- the entry of the wanted name, which is the next, and those behind it
abbrev pub next : List ℕ → Children → Result (Summary × Children) (List ℕ)
next wanted no_children = Err wanted
next wanted (child n s cs) = if bytes_eq n wanted then Ok (s, cs) else Err (first_of n wanted)

-- no entry is left
abbrev pub end : {A : Type 0} → Children → A → Result A (List ℕ)
end no_children a = Ok a
end (child n s cs) a = Err n

abbrev pub channels_answer : Summary → Result Channels (List ℕ)
channels_answer node = blob_under (codes ".app") (app.answer node)

-- the number of attributes, where these are in their form, is the one that was given with the summary
abbrev pub of_number : ℕ → Option ℕ → Result (Unit {0}) (List ℕ)
of_number number None = Ok tt
of_number number (Some own) = if own == number then Ok tt else Err (under (codes ".protocol") (codes "attributes"))

abbrev pub quorum_answer : ℕ → Summary → Result Quorum (List ℕ)
quorum_answer number node =
    if is_tree node then (of_number number (quorum.number_in node) >>= λ _. blob_under (codes ".protocol") (quorum.answer node)) else Err (codes ".protocol")

-- `.app`, `.protocol`, and nothing else
abbrev pub version_answer : ℕ → Children → Result (Channels × Quorum) (List ℕ)
version_answer number cs =
    next (codes ".app") cs >>= λ first.
    channels_answer first.0 >>= λ channels.
    next (codes ".protocol") first.1 >>= λ second.
    quorum_answer number second.0 >>= λ q.
    end second.1 (channels, q)

-- the entries of the tree under an id
abbrev pub entries_of : Option Object → Result (List ObjectEntry) (List ℕ)
entries_of None = Err (codes ".")
entries_of (Some (Blob content)) = Err (codes ".")
entries_of (Some (Tree entries)) = Ok entries

abbrev pub entries_at : Held → List ℕ → Result (List ObjectEntry) (List ℕ)
entries_at held id = entries_of (object_at held id)

-- the id of the first entry of this name
abbrev pub id_named : List ℕ → List ℕ → List ObjectEntry → List ℕ
id_named otherwise name [] = otherwise
id_named otherwise name (e ∷ es) = if bytes_eq e.name name then e.id else id_named otherwise name es

-- the channels, the quorum, and the id of the tree of the channels
pub record AVersion : Type 0 where
  pub channels : Channels
  pub quorum : Quorum
  pub base : List ℕ

-- the version of a summary
abbrev pub version_at : Held → SummaryRef → Result AVersion (List ℕ)
version_at held summary =
    entries_at held summary.handle >>= λ entries.
    version_answer summary.number (children (nodes_within held 2 entries)) >>= λ v.
    Ok (record { channels = v.0; quorum = v.1; base = id_named summary.handle (codes ".app") entries })
