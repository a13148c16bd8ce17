-- Each node inside a tree is less deep.
use Rattle.std.specs.Prelude.{ℕ, ◌+◌, ◌≤◌, List, [], ◌∷◌}
use Rattle.std.proofs.Common.{arith}
use denote.Param.Weighed.{most}
use Rattle.fluid_tree.specs.Summary.{Summary, children, depth, children_depth}
use Rattle.fluid_tree.specs.View.{summary_of}
use Rattle.fluid_tree.specs.declared.node.Kind.{Kind}
use Rattle.fluid_tree.specs.declared.node.Node.TheDeep.{deep-Kind}
use Rattle.fluid_tree.specs.declared.node.Node.TheShapes.{weighed-Kind-Tree-0-at-2}
use Rattle.fluid_tree.specs.declared.node.Kind.TheVariants.{Blob, Tree, Handle}

entries_less_deep : (cs : List (List ℕ × Summary)) → most (weighed-Kind-Tree-0-at-2.weight Summary (λ s. depth s + 1)) cs ≤ children_depth (children cs) + 1
entries_less_deep [] = omega arith
entries_less_deep (c ∷ cs) = omega (arith, entries_less_deep cs)

pub deep_le-depth : (k : Kind) → deep-Kind k ≤ depth (summary_of k)
deep_le-depth (Blob content) = omega arith
deep_le-depth (Tree entries) = omega (arith, entries_less_deep entries.items)
deep_le-depth (Handle path) = omega arith
