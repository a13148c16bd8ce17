-- JSON values (RFC 8259, section 3) whose numbers are all whole, as plain data.
use Rattle.std.specs.Prelude.{◌≡◌, ℕ, suc, ◌^◌, max, ℤ, pos, negsuc, ◌<◌, List, [], ◌∷◌, Bool, true, false, Option, Some, None, if◌then◌else◌}
use Rattle.std.specs.declared.cmp.Ordering.TheVariants.{Less}
use Rattle.std.specs.Ordering.{nat_cmp}
use Rattle.std.specs.Cmp.Lexicographic.{slice_cmp}
use Rattle.std.specs.Str.{bytes_eq}

-- A text is the list of its UTF-8 bytes.
mutual
  pub data Tree : Type 0 where
    null : Tree
    boolean : Bool → Tree
    whole : ℤ → Tree
    text : List ℕ → Tree
    list : Trees → Tree
    object : Members → Tree

  pub data Trees : Type 0 where
    no_trees : Trees
    tree : Tree → Trees → Trees

  pub data Members : Type 0 where
    no_members : Members
    member : List ℕ → Tree → Members → Members

-- these trees, as the items of a list
abbrev pub trees : List Tree → Trees
trees [] = no_trees
trees (t ∷ ts) = tree t (trees ts)

-- these pairs of a key and a value, as the members of an object
abbrev pub members : List (List ℕ × Tree) → Members
members [] = no_members
members (m ∷ ms) = member m.0 m.1 (members ms)

-- ---- how deep lists and objects stand inside one another

abbrev mutual
  pub depth : Tree → ℕ
  depth null = 0
  depth (boolean b) = 0
  depth (whole n) = 0
  depth (text s) = 0
  depth (list ts) = suc (trees_depth ts)
  depth (object ms) = suc (members_depth ms)

  pub trees_depth : Trees → ℕ
  trees_depth no_trees = 0
  trees_depth (tree t ts) = max (depth t) (trees_depth ts)

  pub members_depth : Members → ℕ
  members_depth no_members = 0
  members_depth (member k t ms) = max (depth t) (members_depth ms)

-- ---- looking into a value

-- the value at this key
abbrev pub find_member : List ℕ → Members → Option Tree
find_member k no_members = None
find_member k (member l t ms) = if bytes_eq k l then Some t else find_member k ms

-- the value at this key, where the tree is an object that has it
abbrev pub find : List ℕ → Tree → Option Tree
find k null = None
find k (boolean b) = None
find k (whole n) = None
find k (text s) = None
find k (list ts) = None
find k (object ms) = find_member k ms

abbrev pub is_null : Tree → Bool
is_null null = true
is_null (boolean b) = false
is_null (whole n) = false
is_null (text s) = false
is_null (list ts) = false
is_null (object ms) = false

abbrev pub as_boolean : Tree → Option Bool
as_boolean null = None
as_boolean (boolean b) = Some b
as_boolean (whole n) = None
as_boolean (text s) = None
as_boolean (list ts) = None
as_boolean (object ms) = None

abbrev pub as_whole : Tree → Option ℤ
as_whole null = None
as_whole (boolean b) = None
as_whole (whole n) = Some n
as_whole (text s) = None
as_whole (list ts) = None
as_whole (object ms) = None

abbrev pub as_text : Tree → Option (List ℕ)
as_text null = None
as_text (boolean b) = None
as_text (whole n) = None
as_text (text s) = Some s
as_text (list ts) = None
as_text (object ms) = None

abbrev pub as_trees : Tree → Option Trees
as_trees null = None
as_trees (boolean b) = None
as_trees (whole n) = None
as_trees (text s) = None
as_trees (list ts) = Some ts
as_trees (object ms) = None

abbrev pub as_members : Tree → Option Members
as_members null = None
as_members (boolean b) = None
as_members (whole n) = None
as_members (text s) = None
as_members (list ts) = None
as_members (object ms) = Some ms

-- ---- one tree for one value: numbers of 64 bits, and keys in byte order, each once

abbrev pub IsBelow : List ℕ → List ℕ → Type 0
IsBelow k l = slice_cmp nat_cmp k l ≡ Less

-- the key is below each key of these members
abbrev pub IsBelowAll : List ℕ → Members → Type 0
IsBelowAll k no_members = Unit {0}
IsBelowAll k (member l t ms) = IsBelow k l × IsBelowAll k ms

-- the number is one of a signed number of 64 bits
abbrev pub IsSigned : ℤ → Type 0
IsSigned (pos n) = n < 2 ^ 63
IsSigned (negsuc n) = n < 2 ^ 63

abbrev mutual
  pub IsCanonical : Tree → Type 0
  IsCanonical null = Unit {0}
  IsCanonical (boolean b) = Unit {0}
  IsCanonical (whole n) = IsSigned n
  IsCanonical (text s) = Unit {0}
  IsCanonical (list ts) = AreCanonical ts
  IsCanonical (object ms) = HasCanonical ms

  pub AreCanonical : Trees → Type 0
  AreCanonical no_trees = Unit {0}
  AreCanonical (tree t ts) = IsCanonical t × AreCanonical ts

  pub HasCanonical : Members → Type 0
  HasCanonical no_members = Unit {0}
  HasCanonical (member k t ms) = IsBelowAll k ms × (IsCanonical t × HasCanonical ms)

-- the keys of these members stand in byte order, each once
abbrev pub AreAscending : Members → Type 0
AreAscending no_members = Unit {0}
AreAscending (member k t ms) = IsBelowAll k ms × AreAscending ms
