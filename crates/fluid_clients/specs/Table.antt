-- The table of joined clients: a finite map from their ids to their rows.
use Rattle.std.specs.Prelude.{ℕ, ◌+◌, ◌-◌, ◌*◌, ◌^◌, ◌≤◌, Option, Some, None, List, map, min}
use Rattle.std.specs.List.{reduce}
use Rattle.std.specs.Option.{option_map_or}
use Rattle.std.specs.FinMap.{FinMap, entries, from_sorted, get, insert, len, values, code}
use Rattle.std.specs.Coded.{Coded, code_by, coded×, coded_ℕ, coded_list, coded_bool}
use Rattle.std.specs.Prelude.{Bool, refl}
pub use Rattle.fluid_table.specs.Table.{byte_order}
use Rattle.fluid_clients.specs.declared.table.Row.{Row}

-- the row of each joined client under its id
abbrev pub Rows : Type 0
Rows = FinMap byte_order Row

-- the map of entries that stand in the order of their ids
abbrev pub rows_of : List (List ℕ × Row) → Rows
rows_of = from_sorted

-- the rows, and for how many more there is room already
pub record Table : Type 0 where
  pub rows : Rows
  pub spare : ℕ

-- so many steps that a power of two with them as exponent is at most twice the clients with those for whom there is room
abbrev pub IsFewSteps : Table → ℕ → ℕ → Type 0
IsFewSteps table old new = 2 ^ (new - old) ≤ 2 * (len table.rows + table.spare)

-- the least reference among the rows; none where no client is joined
abbrev pub least : Rows → Option ℕ
least rows = reduce min (map (λ row. row.reference) (values rows))

-- the rows with the one under an id changed; as they are where there is none
abbrev pub change_row : List ℕ → (Row → Row) → Rows → Rows
change_row id f rows = option_map_or (λ row. insert rows id (f row)) (get rows id) rows

-- the least reference among the rows, were this one that of the client with the id
abbrev pub least_with : Rows → List ℕ → ℕ → Option ℕ
least_with rows id reference = least (change_row id (λ row. record row { reference = reference }) rows)

-- the row with a reference above a number put down to it, and the rows with each so
abbrev pub row_up_to : ℕ → Row → Row
row_up_to most row = record row { reference = min row.reference most }

abbrev pub rows_up_to : ℕ → Rows → Rows
rows_up_to most rows = rows_of (map (λ entry. (entry.0, row_up_to most entry.1)) (entries rows))

-- a row as the tuple of its fields
abbrev pub row_code : Coded Row
row_code =
    code_by (ℕ × (ℕ × (Bool × (Bool × (Bool × (Bool × ℕ))))))
    (coded× coded_ℕ (coded× coded_ℕ (coded× coded_bool (coded× coded_bool (coded× coded_bool (coded× coded_bool coded_ℕ))))))
    (λ row. (row.last, (row.reference, (row.nacked, (row.scopes.read, (row.scopes.write, (row.scopes.summary, row.heard)))))))
    (λ fields. record {
      last = fields.0;
      reference = fields.1.0;
      nacked = fields.1.1.0;
      scopes = record { read = fields.1.1.1.0; write = fields.1.1.1.1.0; summary = fields.1.1.1.1.1.0 };
      heard = fields.1.1.1.1.1.1;
    })
    (λ _. refl)

-- a table as the pair of its parts
abbrev pub table_code : Coded Table
table_code =
    code_by (Rows × ℕ) (coded× (code (coded_list coded_ℕ) row_code) coded_ℕ) (λ table. (table.rows, table.spare))
    (λ parts. record { rows = parts.0; spare = parts.1 }) (λ _. refl)

-- ---- a sequencer's parts

-- the last sequence number, the minimum of the last message, and the rows of the joined clients
pub record Parts : Type 0 where
  pub sequence : ℕ
  pub minimum : ℕ
  pub rows : Rows

abbrev pub rows_code : Coded Rows
rows_code = code (coded_list coded_ℕ) row_code

-- as a tuple of them
abbrev pub parts_code : Coded Parts
parts_code =
    code_by (ℕ × (ℕ × Rows)) (coded× coded_ℕ (coded× coded_ℕ rows_code)) (λ parts. (parts.sequence, (parts.minimum, parts.rows)))
    (λ fields. record { sequence = fields.0; minimum = fields.1.0; rows = fields.1.1 }) (λ _. refl)
