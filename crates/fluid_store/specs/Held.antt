-- What a store holds: a finite map from ids to bytes.
use Rattle.std.specs.Prelude.{◌≡◌, ℕ, ◌^◌, ◌<◌, List, length, Some}
use Rattle.std.specs.FinMap.{FinMap, get}
pub use Rattle.fluid_table.specs.Table.{byte_order}

abbrev pub Held : Type 0
Held = FinMap byte_order (List ℕ)

-- all that was held is held as it was
abbrev pub Keeps : Held → Held → Type 0
Keeps old new = (id bytes : List ℕ) → get old id ≡ Some bytes → get new id ≡ Some bytes

-- no object that is held has 2^53 bytes or more; a longer one isn't read
abbrev pub IsShort : Held → Type 0
IsShort held = (id bytes : List ℕ) → get held id ≡ Some bytes → length bytes < 2 ^ 53
