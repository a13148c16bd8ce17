-- The items of a list, as arguments.
use Rattle.std.specs.Prelude.{ℕ, zero, suc, Option, Some, None, option_and_then}
use Rattle.fluid_json.specs.Tree.{Tree, Trees, no_trees, tree, as_trees}
use Rattle.fluid_types.specs.Forms.{Read, ◌>>=◌, Form, present}
use Rattle.fluid_types.specs.declared.fault.Field.{Field}

abbrev pub nth : ℕ → Trees → Option Tree
nth n no_trees = None
nth zero (tree t ts) = Some t
nth (suc n) (tree t ts) = nth n ts

-- the item of a list at this place, from 0
abbrev pub item : ℕ → Tree → Option Tree
item n t = option_and_then (nth n) (as_trees t)

-- an argument, which must be there
abbrev pub argument : {A : Type 0} → Tree → ℕ → Field → Form A → Read A
argument t n f form = present f (item n t) >>= form f
