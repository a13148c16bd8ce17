-- What stands inside a list or an object is no deeper than its items or members.
use Rattle.std.proofs.Common.{ℕ, zero, suc, ◌<◌, ◌≤◌, List, [], ◌∷◌, length, get_or, arith}
use Rattle.fluid_json.specs.Tree.{Tree, trees, members, depth, trees_depth, members_depth}

pub trees_depth-at : (ts : List Tree) (i : ℕ) (d : Tree) → i < length ts → depth (get_or ts i d) ≤ trees_depth (trees ts)
trees_depth-at [] i d h = absurd (omega arith)
trees_depth-at (t ∷ ts) zero d h = omega arith
trees_depth-at (t ∷ ts) (suc i) d h = let k : depth (get_or ts i d) ≤ trees_depth (trees ts) = trees_depth-at ts i d (omega arith) in omega arith

pub members_depth-at : (ms : List (List ℕ × Tree)) (i : ℕ) (d : List ℕ × Tree) → i < length ms → depth (get_or ms i d).1 ≤ members_depth (members ms)
members_depth-at [] i d h = absurd (omega arith)
members_depth-at (m ∷ ms) zero d h = omega arith
members_depth-at (m ∷ ms) (suc i) d h = let k : depth (get_or ms i d).1 ≤ members_depth (members ms) = members_depth-at ms i d (omega arith) in omega arith
