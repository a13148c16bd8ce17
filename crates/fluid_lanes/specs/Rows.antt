-- Rows of a table by names of documents.
use Rattle.std.specs.Prelude.{◌≡◌, ℕ, List, Option, Some, None}
use Rattle.std.specs.FinMap.{empty, get, remove}
use Rattle.fluid_table.specs.Table.{Values}

-- a row is a name with a value
abbrev pub name_of : {V : Type 0} → List ℕ × V → List ℕ
name_of row = row.0

abbrev pub value_of : {V : Type 0} → List ℕ × V → V
value_of row = row.1

-- one name was taken out with its value, or there was none
abbrev pub TakesLast : {V : Type 0} → Values V → Values V → Option (List ℕ × V) → Type 0
TakesLast old new None = (old ≡ empty) × (new ≡ old)
TakesLast old new (Some row) = (get old row.0 ≡ Some row.1) × (new ≡ remove old row.0)
