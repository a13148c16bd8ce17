-- What holds of the definitions.
use Rattle.std.specs.Prelude.{◌≡◌, ℕ, List, Option, Some, Ok}
use Rattle.fluid_tree.specs.Summary.{Summary}
use Rattle.fluid_handles.specs.Resolved.{IsWhole, resolved}

-- a tree without handles stands for itself
abbrev pub IsItself : Type 0
IsItself = (base : Option Summary) (node : Summary) → IsWhole node → resolved base node ≡ Ok node

-- a tree stands for one without handles, where there is none in the earlier one
abbrev pub HasNoHandle : Type 0
HasNoHandle = (base node whole : Summary) → IsWhole base → resolved (Some base) node ≡ Ok whole → IsWhole whole
