-- A map from keys to bytes beside the entries in order: for the private clauses of writing.
use Rattle.std.specs.Prelude.{◌≡◌, ℕ, List, [], ◌∷◌, String, Vec, string_bytes}
use Rattle.std.specs.declared.alloc.Global.{Global}
use Rattle.fluid_tree.specs.Object.{entry_bytes, sort_key}
use Rattle.fluid_tree.specs.declared.object.ObjectEntry.{ObjectEntry}

-- each at its key, with its bytes
abbrev pub Stands : List (String Global × Vec ℕ Global) → List ObjectEntry → Type 0
Stands [] [] = Unit {0}
Stands [] (e ∷ es) = ⊥
Stands (m ∷ ms) [] = ⊥
Stands (m ∷ ms) (e ∷ es) = (string_bytes m.0 ≡ sort_key e.tree e.name) × ((m.1.items ≡ entry_bytes e) × Stands ms es)
