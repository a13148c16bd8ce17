-- What is printed is read back.
use Rattle.std.specs.Prelude.{◌≡◌, ◌≤◌, Ok}
use Rattle.fluid_json.specs.Tree.{Tree, IsCanonical, depth}
use Rattle.fluid_json.specs.Printed.{printed}
use Rattle.fluid_json.specs.Spelled.{answer, answer_stored}

abbrev pub IsReadBack : Type 0
IsReadBack = (t : Tree) → IsCanonical t → depth t ≤ 100 → answer (printed t) ≡ Ok t

abbrev pub IsReadBackStored : Type 0
IsReadBackStored = (t : Tree) → IsCanonical t → depth t ≤ 120 → answer_stored (printed t) ≡ Ok t
