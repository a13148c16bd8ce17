-- A store that tells what it holds only where that may be told.
use Rattle.std.specs.Prelude.{◌≡◌, Bool, true, false, Some, None}
use Rattle.fluid_store.specs.Held.{Held, IsShort}
use Rattle.fluid_store.specs.Storing.{Storing}

abbrev pub hushed : Bool → Storing → Storing
hushed true store = store
hushed false store = record store { content = None }

-- this is what is told of the store: all, or all but what it holds
pub record IsHushed (store told : Storing) : Type 0 where
  pub may : Bool
  pub is : told ≡ hushed may store

-- no object that is told of has 2^53 bytes or more
abbrev pub IsShortAsTold : Storing → Type 0
IsShortAsTold store = (held : Held) → store.content ≡ Some held → IsShort held
