-- JSON values whose keys and texts are UTF-8.
use Rattle.std.specs.Prelude.{⊤, IsUtf8}
use Rattle.fluid_json.specs.Tree.{Tree, null, boolean, whole, text, list, object, Trees, no_trees, tree, Members, no_members, member, IsSigned}

abbrev mutual
  pub IsText : Tree → Type 0
  IsText null = ⊤
  IsText (boolean b) = ⊤
  IsText (whole n) = ⊤
  IsText (text s) = IsUtf8 s
  IsText (list ts) = AreTexts ts
  IsText (object ms) = HasTexts ms

  pub AreTexts : Trees → Type 0
  AreTexts no_trees = ⊤
  AreTexts (tree t ts) = IsText t × AreTexts ts

  pub HasTexts : Members → Type 0
  HasTexts no_members = ⊤
  HasTexts (member k t ms) = IsUtf8 k × (IsText t × HasTexts ms)

-- its numbers are signed ones of 64 bits too
abbrev mutual
  pub IsWritable : Tree → Type 0
  IsWritable null = ⊤
  IsWritable (boolean b) = ⊤
  IsWritable (whole n) = IsSigned n
  IsWritable (text s) = IsUtf8 s
  IsWritable (list ts) = AreWritable ts
  IsWritable (object ms) = HasWritable ms

  pub AreWritable : Trees → Type 0
  AreWritable no_trees = ⊤
  AreWritable (tree t ts) = IsWritable t × AreWritable ts

  pub HasWritable : Members → Type 0
  HasWritable no_members = ⊤
  HasWritable (member k t ms) = IsUtf8 k × (IsWritable t × HasWritable ms)
