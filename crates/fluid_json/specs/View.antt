-- The tree that a value's node stands for. Each value inside is already seen as its tree.
use Rattle.fluid_json.specs.Tree.{Tree, null, boolean, whole, text, list, object, trees, members}
use Rattle.fluid_json.specs.declared.value.Node.{Node}
use Rattle.fluid_json.specs.declared.value.Node.TheVariants.{Null, Bool, Whole, Text, List, Object}

abbrev pub tree_of : Node → Tree
tree_of Null = null
tree_of (Bool b) = boolean b
tree_of (Whole n) = whole n
tree_of (Text s) = text s
tree_of (List ts) = list (trees ts.items)
tree_of (Object ms) = object (members ms.items)
