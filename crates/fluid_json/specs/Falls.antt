-- Each value inside a list or an object is less deep.
use Rattle.std.specs.Prelude.{ℕ, ◌+◌, ◌≤◌, List, [], ◌∷◌}
use Rattle.std.proofs.Common.{arith}
use denote.Param.Weighed.{most}
use Rattle.fluid_json.specs.Tree.{Tree, trees, members, depth, trees_depth, members_depth}
use Rattle.fluid_json.specs.View.{tree_of}
use Rattle.fluid_json.specs.declared.value.Node.{Node}
use Rattle.fluid_json.specs.declared.value.Json.TheDeep.{deep-Node}
use Rattle.fluid_json.specs.declared.value.Json.TheShapes.{weighed-Node-Object-0-at-2}
use Rattle.fluid_json.specs.declared.value.Node.TheVariants.{Null, Bool, Whole, Text, List as Listed, Object}

items_less_deep : (ts : List Tree) → most (λ t. depth t + 1) ts ≤ trees_depth (trees ts) + 1
items_less_deep [] = omega arith
items_less_deep (t ∷ ts) = omega (arith, items_less_deep ts)

values_less_deep : (ms : List (List ℕ × Tree)) → most (weighed-Node-Object-0-at-2.weight Tree (λ t. depth t + 1)) ms ≤ members_depth (members ms) + 1
values_less_deep [] = omega arith
values_less_deep (m ∷ ms) = omega (arith, values_less_deep ms)

pub deep_le-depth : (n : Node) → deep-Node n ≤ depth (tree_of n)
deep_le-depth Null = omega arith
deep_le-depth (Bool b) = omega arith
deep_le-depth (Whole n) = omega arith
deep_le-depth (Text s) = omega arith
deep_le-depth (Listed ts) = omega (arith, items_less_deep ts.items)
deep_le-depth (Object ms) = omega (arith, values_less_deep ms.items)
