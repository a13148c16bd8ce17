-- What a summary tree with handles stands for: in the place of each handle the node of the earlier tree that it names.
use Rattle.std.specs.Prelude.{ℕ, List, [], ◌∷◌, Option, Some, None, option_and_then, Result, Ok, Err, if◌then◌else◌, bytes_eq}
use Rattle.std.specs.Option.{ok_or}
use Rattle.fluid_tree.specs.Summary.{Summary, blob, tree, handle, Children, no_children, child, as_children}

-- the path of the first handle that names no node ends the reading
infixl 1 ◌>>=◌
abbrev pub ◌>>=◌ : {A B : Type 0} → Result A (List (List ℕ)) → (A → Result B (List (List ℕ))) → Result B (List (List ℕ))
Ok a >>= f = f a
Err path >>= f = Err path

-- the first entry of this name
abbrev pub named : List ℕ → Children → Option Summary
named name no_children = None
named name (child n s cs) = if bytes_eq name n then Some s else named name cs

-- the node at the end of a path, from the node where it begins
abbrev pub at_path : List (List ℕ) → Summary → Option Summary
at_path [] s = Some s
at_path (name ∷ path) s = option_and_then (at_path path) (option_and_then (named name) (as_children s))

-- the tree with the nodes of an earlier one, if there is one, in the places of its handles, or the path of the first handle, as the
-- nodes stand, that isn't in it
abbrev mutual
  pub resolved : Option Summary → Summary → Result Summary (List (List ℕ))
  resolved base (blob content) = Ok (blob content)
  resolved base (tree nodes) = do
    whole ← all_resolved base nodes
    Ok (tree whole)
  resolved base (handle path) = ok_or (option_and_then (at_path path) base) path

  pub all_resolved : Option Summary → Children → Result Children (List (List ℕ))
  all_resolved base no_children = Ok no_children
  all_resolved base (child name node nodes) = do
    s ← resolved base node
    rest ← all_resolved base nodes
    Ok (child name s rest)

-- no handle stands in it
abbrev mutual
  pub IsWhole : Summary → Type 0
  IsWhole (blob content) = Unit {0}
  IsWhole (tree nodes) = AllWhole nodes
  IsWhole (handle path) = ⊥

  pub AllWhole : Children → Type 0
  AllWhole no_children = Unit {0}
  AllWhole (child name node nodes) = IsWhole node × AllWhole nodes
