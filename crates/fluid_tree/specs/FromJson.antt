-- The node that a JSON value spells: `{"type":1,"tree":{NAME:NODE}}`, `{"type":2,"content":TEXT}`, `{"type":3,"handle":PATH}`, and an attachment,
-- `{"type":4,"id":TEXT}`, which is refused.
use Rattle.std.specs.Prelude.{ℕ, zero, suc, ◌==◌, ℤ, pos, negsuc, List, [], ◌∷◌, Option, Some, None, option_and_then, Result, Ok, Err, if◌then◌else◌, codes}
use Rattle.std.specs.List.{list_any, slice_split}
use Rattle.fluid_json.specs.Tree.{Tree, Members, no_members, member, find, as_whole, as_text, as_members}
use Rattle.fluid_tree.specs.Summary.{Summary, blob, tree, handle, Children, no_children, child}
use Rattle.fluid_tree.specs.Names.{is_bad}
use Rattle.fluid_tree.specs.Identity.{◌>>=◌, unrefused}
use Rattle.fluid_tree.specs.declared.fault.TreeFault.{TreeFault}
use Rattle.fluid_tree.specs.declared.fault.TreeFault.TheVariants.{TooDeep, Attachment, BadForm}

-- a part that has its form
abbrev pub formed : {A : Type 0} → Option A → Result A TreeFault
formed None = Err BadForm
formed (Some a) = Ok a

abbrev pub text_at : List ℕ → Tree → Option (List ℕ)
text_at key t = option_and_then as_text (find key t)

-- the names of a path, which are joined by `/`; one `/` in front is passed over
abbrev pub without_slash : List ℕ → List ℕ
without_slash [] = []
without_slash (x ∷ xs) = if x == 47 then xs else x ∷ xs

unfoldable pub path_of : List ℕ → Option (List (List ℕ))
path_of s = if list_any is_bad (slice_split (λ x. x == 47) (without_slash s)) then None else Some (slice_split (λ x. x == 47) (without_slash s))

-- the first key that is bad as a name; keys of an object stand once
unfoldable pub bad_key : Members → Option (List ℕ)
bad_key no_members = None
bad_key (member k t ms) = if is_bad k then Some k else bad_key ms

abbrev pub children_by : (Tree → Result Summary TreeFault) → Members → Result Children TreeFault
children_by node no_members = Ok no_children
children_by node (member k t ms) = do
  s ← node t
  cs ← children_by node ms
  Ok (child k s cs)

abbrev pub nodes_by : (Tree → Result Summary TreeFault) → Members → Result Summary TreeFault
nodes_by node ms = do
  cs ← children_by node ms
  Ok (tree cs)

-- the tree of these entries, each read by `node`
abbrev pub tree_by : (Tree → Result Summary TreeFault) → Members → Result Summary TreeFault
tree_by node ms = do
  ok ← unrefused (bad_key ms)
  nodes_by node ms

unfoldable pub blob_of : Tree → Result Summary TreeFault
blob_of t = do
  content ← formed (text_at (codes "content") t)
  Ok (blob content)

unfoldable pub handle_of : Tree → Result Summary TreeFault
handle_of t = do
  path ← formed (option_and_then path_of (text_at (codes "handle") t))
  Ok (handle path)

unfoldable pub attachment_of : Tree → Result Summary TreeFault
attachment_of t = do
  id ← formed (text_at (codes "id") t)
  Err Attachment

-- the members of a tree's entries
abbrev pub entries_at : Tree → Result Members TreeFault
entries_at t = formed (option_and_then as_members (find (codes "tree") t))

-- what a value of this type is, where `subtree` is what it is as a tree
abbrev pub at_type : Option ℤ → Result Summary TreeFault → Tree → Result Summary TreeFault
at_type None subtree t = Err BadForm
at_type (Some (negsuc n)) subtree t = Err BadForm
at_type (Some (pos n)) subtree t =
    if n == 1 then subtree
    else if n == 2 then blob_of t
    else if n == 3 then handle_of t
    else if n == 4 then attachment_of t
    else Err BadForm

abbrev pub type_of : Tree → Option ℤ
type_of t = option_and_then as_whole (find (codes "type") t)

-- `levels` more trees may stand inside one another
unfoldable pub node_within : ℕ → Tree → Result Summary TreeFault
node_within zero t = at_type (type_of t) (entries_at t >>= λ ms. Err TooDeep) t
node_within (suc levels) t = at_type (type_of t) (entries_at t >>= λ ms. tree_by (node_within levels) ms) t

-- at most 32 trees stand inside one another
abbrev pub node_answer : Tree → Result Summary TreeFault
node_answer = node_within 32
