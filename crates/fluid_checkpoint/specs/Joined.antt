-- Clients that join one after another, for private clauses.
use Rattle.std.specs.Prelude.{ℕ, List, [], ◌∷◌, is_some, if◌then◌else◌}
use Rattle.std.specs.FinMap.{get, insert}
use Rattle.fluid_clients.specs.declared.table.Row.{Row}
use Rattle.fluid_clients.specs.Table.{Rows}

-- with this client, unless it is in already
abbrev pub taken_in : Rows → List ℕ → Row → Rows
taken_in rows id row = if is_some (get rows id) then rows else insert rows id row

abbrev pub all_in : Rows → List (List ℕ × Row) → Rows
all_in rows [] = rows
all_in rows (client ∷ clients) = all_in (taken_in rows client.0 client.1) clients
