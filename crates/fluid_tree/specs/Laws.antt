-- What reading and writing objects have to do with each other.
use Rattle.std.specs.Prelude.{◌≡◌, ℕ, ◌^◌, ◌<◌, List, [], ◌∷◌, ◌++◌, length, map, flat_map, true, Some, None, Ok}
use Rattle.std.specs.Str.{IsUtf8}
use Rattle.hex.specs.Hex.{IsBytes, encode_lower}
use Rattle.fluid_tree.specs.Ids.{id_read}
use Rattle.fluid_tree.specs.Names.{first_refused}
use Rattle.fluid_tree.specs.Object.{entry_bytes, object_bytes}
use Rattle.fluid_tree.specs.Reading.{fits_behind, object_read}
use Rattle.fluid_tree.specs.declared.object.Object.{Object}
use Rattle.fluid_tree.specs.declared.object.Object.TheVariants.{Blob, Tree}
use Rattle.fluid_tree.specs.declared.object.ObjectEntry.{ObjectEntry}

-- each entry has a name in UTF-8 that isn't refused, stands behind the one before it in the order of entries, and has 20 bytes of id
abbrev pub AreWhole : List ObjectEntry → List ObjectEntry → Type 0
AreWhole before [] = Unit {0}
AreWhole before (e ∷ es) = (fits_behind before e ≡ true) × ((IsUtf8 e.name × (length e.id ≡ 20)) × AreWhole (before ++ e ∷ []) es)

-- the object is one of the grammar, of less than 2 ^ 53 bytes
abbrev pub IsWhole : Object → Type 0
IsWhole (Blob content) = length content < 2 ^ 53
IsWhole (Tree entries) = AreWhole [] entries × (length (flat_map entry_bytes entries) < 2 ^ 53)

-- the bytes of an object are read as that object
abbrev pub IsReadBack : Type 0
IsReadBack = (o : Object) → IsWhole o → object_read (object_bytes o) ≡ Ok o

-- bytes from which an object is read are the bytes of that object
abbrev pub IsOfBytes : Type 0
IsOfBytes = (s : List ℕ) (o : Object) → object_read s ≡ Ok o → object_bytes o ≡ s

-- the entries that are read have names, and no name twice
abbrev pub AreNamed : Type 0
AreNamed = (s : List ℕ) (entries : List ObjectEntry) → object_read s ≡ Ok (Tree entries) → first_refused [] (map (λ e. e.name) entries) ≡ None

-- the text of 20 bytes is read as these bytes
abbrev pub IsIdReadBack : Type 0
IsIdReadBack = (i : List ℕ) → length i ≡ 20 → IsBytes i → id_read (encode_lower i) ≡ Some i
