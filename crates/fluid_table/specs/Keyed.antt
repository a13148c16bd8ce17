-- Entries that bear their own keys, in byte order of these, and the finite map that they stand for.
use Rattle.std.specs.Prelude.{◌≡◌, ℕ, ◌<◌, ◌≤◌, List, length, map, IsTrue}
use Rattle.std.specs.List.{AllWithin, HoldsAt}
use Rattle.std.specs.declared.cmp.Ordering.TheVariants.{Less, Greater}
use Rattle.std.specs.FinMap.{FinMap, from_sorted, is_sorted}
use Rattle.fluid_table.specs.Table.{byte_order}

-- ---- entries, each with a key and a value

module _ {E X : Type 0} (key : E → List ℕ) (value : E → X) where
  -- the keys and the values of these entries
  abbrev pub pairs_of : List E → List (List ℕ × X)
  pairs_of entries = map (λ e. (key e, value e)) entries

  -- their keys strictly rise
  abbrev pub IsInOrder : List E → Type 0
  IsInOrder entries = IsTrue (is_sorted byte_order (pairs_of entries))

  -- the map from their keys to their values
  abbrev pub table_of : List E → FinMap byte_order X
  table_of entries = from_sorted (pairs_of entries)

-- ---- where a key stands, or would stand

-- the entry at this place has the key
pub record IsAt {E : Type 0} (key : E → List ℕ) (entries : List E) (wanted : List ℕ) (place : ℕ) : Type 0 where
  pub in_range : place < length entries
  pub has_key : HoldsAt (λ e. key e ≡ wanted) entries place

-- the key would stand at this place: lesser keys before it, greater ones from it on
pub record IsGap {E : Type 0} (key : E → List ℕ) (entries : List E) (wanted : List ℕ) (place : ℕ) : Type 0 where
  pub in_range : place ≤ length entries
  pub before : AllWithin (λ e. byte_order (key e) wanted ≡ Less) entries 0 place
  pub after : AllWithin (λ e. byte_order (key e) wanted ≡ Greater) entries place (length entries)
