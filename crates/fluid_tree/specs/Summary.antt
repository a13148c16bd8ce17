-- A summary tree: blobs, trees of named nodes, and handles, which name a place in an earlier summary. As plain data.
use Rattle.std.specs.Prelude.{ℕ, suc, max, List, [], ◌∷◌, Bool, true, false, Option, Some, None}

mutual
  pub data Summary : Type 0 where
    blob : List ℕ → Summary
    tree : Children → Summary
    handle : List (List ℕ) → Summary

  pub data Children : Type 0 where
    no_children : Children
    child : List ℕ → Summary → Children → Children

-- these pairs of a name and a node, as the entries of a tree
abbrev pub children : List (List ℕ × Summary) → Children
children [] = no_children
children (c ∷ cs) = child c.0 c.1 (children cs)

-- the names of a tree's entries, in their order
abbrev pub names : Children → List (List ℕ)
names no_children = []
names (child n s cs) = n ∷ names cs

abbrev pub is_tree : Summary → Bool
is_tree (blob content) = false
is_tree (tree cs) = true
is_tree (handle path) = false

abbrev pub as_blob : Summary → Option (List ℕ)
as_blob (blob content) = Some content
as_blob (tree cs) = None
as_blob (handle path) = None

abbrev pub as_children : Summary → Option Children
as_children (blob content) = None
as_children (tree cs) = Some cs
as_children (handle path) = None

abbrev pub as_handle : Summary → Option (List (List ℕ))
as_handle (blob content) = None
as_handle (tree cs) = None
as_handle (handle path) = Some path

-- how many trees stand inside one another
abbrev mutual
  pub depth : Summary → ℕ
  depth (blob content) = 0
  depth (tree cs) = suc (children_depth cs)
  depth (handle path) = 0

  pub children_depth : Children → ℕ
  children_depth no_children = 0
  children_depth (child n s cs) = max (depth s) (children_depth cs)
