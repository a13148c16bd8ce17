use Rattle.std.proofs.Common.{◌≡◌, ℕ, List, [], drop}
use Rattle.fluid_tree.specs.Names.{first_refused, Knows}
use Rattle.fluid_tree.specs.Summary.{children, names}
use Rattle.fluid_tree.proofs.names.first_refused_child.Given as goal

-- the nodes not yet looked at answer for all
abbrev pub invariant-loop-name : goal.invariant-loop-name
invariant-loop-name l =
    (before : List (List ℕ)) × (Knows l.names.seen before × (first_refused before (names (children (drop l.name-index l.entries))) ≡ first_refused [] (names (children l.entries))))
