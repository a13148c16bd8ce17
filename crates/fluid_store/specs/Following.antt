-- Where the handles of a summary tree lead: places in an earlier tree that is held.
use Rattle.std.specs.Prelude.{ℕ, List, [], ◌∷◌, fold, Option, Some, None, is_some, option_map, if◌then◌else◌, Result, Ok, Err}
use Rattle.std.specs.FinMap.{empty, get, insert}
use Rattle.fluid_table.specs.Table as table
use Rattle.fluid_tree.specs.Object.{is_tree_object}
use Rattle.fluid_tree.specs.declared.object.Object.{Object}
use Rattle.fluid_tree.specs.declared.object.Object.TheVariants.{Blob, Tree}
use Rattle.fluid_tree.specs.declared.object.ObjectEntry.{ObjectEntry}
use Rattle.fluid_store.specs.Held.{Held}
use Rattle.fluid_store.specs.Fetching.{◌>>=◌, found}
use Rattle.fluid_store.specs.declared.fault.StoreFault.{StoreFault}
use Rattle.fluid_store.specs.declared.following.Place.{Place}
use Rattle.fluid_store.specs.declared.following.Earlier.{Earlier}

-- ---- in one object

abbrev pub place_of : ObjectEntry → Place
place_of entry = record { tree = entry.tree; id = entry.id }

-- the first entry of a name counts
abbrev pub with_first : table.Values Place → ObjectEntry → table.Values Place
with_first places entry = if is_some (get places entry.name) then places else insert places entry.name (place_of entry)

-- what stands under each name of these entries
abbrev pub places_of : List ObjectEntry → table.Values Place
places_of entries = fold with_first empty entries

-- what stands under each name in an object: nothing in a blob
abbrev pub places_in : Object → table.Values Place
places_in (Blob content) = empty
places_in (Tree entries) = places_of entries

abbrev pub place_in : Object → List ℕ → Option Place
place_in object name = get (places_in object) name

-- ---- along a path of names

abbrev pub onward : (Place → Result (Option Place) StoreFault) → Option Place → Result (Option Place) StoreFault
onward rest None = Ok None
onward rest (Some place) = rest place

-- what stands at the end of a path, from a place, if anything does
abbrev pub at_end : Held → List (List ℕ) → Place → Result (Option Place) StoreFault
at_end held [] place = Ok (Some place)
at_end held (name ∷ path) place = do
  object ← found held place.id
  onward (at_end held path) (place_in object name)

-- ---- an earlier tree

-- its own place, and what stands under each of its names
pub record AnEarlier : Type 0 where
  pub own : Place
  pub places : table.Values Place

abbrev pub earlier_at : Held → List ℕ → Result AnEarlier StoreFault
earlier_at held id = do
  object ← found held id
  Ok (record { own = record { tree = is_tree_object object; id = id }; places = places_in object })

abbrev pub at_path : Held → AnEarlier → List (List ℕ) → Result (Option Place) StoreFault
at_path held earlier [] = Ok (Some earlier.own)
at_path held earlier (name ∷ path) = onward (at_end held path) (get earlier.places name)

-- ---- as it is kept

abbrev pub known_all : Earlier → AnEarlier
known_all earlier = record { own = earlier.own; places = earlier.places.values }

abbrev pub known : Result Earlier StoreFault → Result AnEarlier StoreFault
known (Ok earlier) = Ok (known_all earlier)
known (Err fault) = Err fault

abbrev pub known_if : Result (Option Earlier) StoreFault → Result (Option AnEarlier) StoreFault
known_if (Ok earlier) = Ok (option_map known_all earlier)
known_if (Err fault) = Err fault
