use Rattle.std.specs.Prelude.{ℕ, Bool, ◌&&◌, ◌||◌, ◌==◌, nat_le, List, ◌++◌, length, codes, decimal, Result, Ok, Err, if◌then◌else◌, IsTrue}
use Rattle.std.specs.List.{list_all}
use Rattle.fluid_types.specs.declared.names.NameFault.{NameFault}
use Rattle.fluid_types.specs.declared.names.NameFault.TheVariants.{BadName}

-- the bytes from one to another, both included
abbrev pub is_within : ℕ → ℕ → ℕ → Bool
is_within least most byte = nat_le least byte && nat_le byte most

-- the bytes of names: `A-Z`, `a-z`, `0-9`, `_` and `-`
abbrev pub is_name_byte : ℕ → Bool
is_name_byte byte = is_within 65 90 byte || is_within 97 122 byte || is_within 48 57 byte || byte == 95 || byte == 45

-- a name: 1 to 64 bytes of names
unfoldable pub is_name : List ℕ → Bool
is_name text = is_within 1 64 (length text) && list_all is_name_byte text

-- a text that is a name
abbrev pub IsName : List ℕ → Type 0
IsName text = IsTrue (is_name text)

-- reading a name: the text itself where it is one
abbrev pub read_name : List ℕ → Result (List ℕ) NameFault
read_name text = if is_name text then Ok text else Err BadName

-- the id that a service gives to the client whose join is its n-th entry: `c` and the number
abbrev pub entry_name : ℕ → List ℕ
entry_name n = codes "c" ++ decimal n
