-- The names of a script's connections, containers and roamers: 1 to 16 bytes of `a-z` and `0-9`.
use Rattle.std.specs.Prelude.{ℕ, Bool, ◌&&◌, ◌||◌, List, length, Result, Ok, Err, if◌then◌else◌, IsTrue}
use Rattle.std.specs.List.{list_all}
use Rattle.fluid_types.specs.Names.{is_within}
use Rattle.fluid_types.specs.declared.names.NameFault.{NameFault}
use Rattle.fluid_types.specs.declared.names.NameFault.TheVariants.{BadName}

abbrev pub is_script_byte : ℕ → Bool
is_script_byte byte = is_within 97 122 byte || is_within 48 57 byte

unfoldable pub is_script_name : List ℕ → Bool
is_script_name text = is_within 1 16 (length text) && list_all is_script_byte text

abbrev pub IsScriptName : List ℕ → Type 0
IsScriptName text = IsTrue (is_script_name text)

abbrev pub read_script_name : List ℕ → Result (List ℕ) NameFault
read_script_name text = if is_script_name text then Ok text else Err BadName
