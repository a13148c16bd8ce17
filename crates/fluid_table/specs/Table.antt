-- A table of values under keys, which are seen as their texts: a finite map, with the room that it has.
use Rattle.std.specs.Prelude.{ℕ, List, refl}
use Rattle.std.specs.Ordering.{nat_cmp}
use Rattle.std.specs.Cmp.Lexicographic.{slice_cmp}
use Rattle.std.specs.declared.cmp.Ordering.{Ordering}
use Rattle.std.specs.FinMap.{FinMap, insert, code}
use Rattle.std.specs.Coded.{Coded, code_by, coded×, coded_ℕ, coded_list}

-- keys stand in the order of their bytes
abbrev pub byte_order : List ℕ → List ℕ → Ordering
byte_order = slice_cmp nat_cmp

-- the keys that have a value, each with it
abbrev pub Values : Type 0 → Type 0
Values V = FinMap byte_order V

-- keys with their values, and for how many more keys there is room already
pub record Table (V : Type 0) : Type 0 where
  pub values : Values V
  pub spare : ℕ

-- another value under the key
abbrev pub with_value : {V : Type 0} → Table V → List ℕ → V → Table V
with_value table key value = record table { values = insert table.values key value }

-- a table as the pair of its parts
abbrev pub values_code : (V : Type 0) → Coded V → Coded (Values V)
values_code V value_code = code (coded_list coded_ℕ) value_code

abbrev pub table_code : (V : Type 0) → Coded V → Coded (Table V)
table_code V value_code =
    code_by (Values V × ℕ) (coded× (values_code V value_code) coded_ℕ) (λ table. (table.values, table.spare))
    (λ parts. record { values = parts.0; spare = parts.1 }) (λ _. refl)
