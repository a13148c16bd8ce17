-- What operations make of a map: the last that speaks of a key decides its value.
use Rattle.std.specs.Prelude.{◌≡◌, ℕ, List, [], ◌∷◌, Option, Some, None, if◌then◌else◌, bytes_eq, fold}
use Rattle.std.specs.Option.{option_or, unwrap_or}
use Rattle.std.specs.FinMap.{empty, get, insert, remove}
use Rattle.fluid_json.specs.Tree.{Tree}
use Rattle.fluid_table.specs.Table as table
use Rattle.fluid_map.specs.declared.operation.MapOp.{MapOp}
use Rattle.fluid_map.specs.declared.operation.MapOp.TheVariants.{Set, Delete, Clear}

-- the keys that have a value, each with it, in byte order
abbrev pub Values : Type 0
Values = table.Values Tree

-- ---- for each key

-- what an operation says of a key: nothing, or which value it has from then on, if any
abbrev pub says : List ℕ → MapOp → Option (Option Tree)
says key (Set k value) = if bytes_eq key k then Some (Some value) else None
says key (Delete k) = if bytes_eq key k then Some None else None
says key Clear = Some None

-- what the last of the operations that speaks of the key says of it
abbrev pub last_word : List ℕ → List MapOp → Option (Option Tree)
last_word key [] = None
last_word key (op ∷ ops) = option_or (last_word key ops) (says key op)

-- the value of a key behind operations: what the last that speaks of it says, and else its value from before
abbrev pub value_behind : List ℕ → List MapOp → Option Tree → Option Tree
value_behind key ops before = unwrap_or (last_word key ops) before

-- ---- for the whole map

-- the map behind one operation
abbrev pub after : Values → MapOp → Values
after values (Set key value) = insert values key value
after values (Delete key) = remove values key
after values Clear = empty

-- the map behind operations, oldest first
abbrev pub replay : Values → List MapOp → Values
replay values ops = fold after values ops

-- ---- a client's map

-- the map behind the operations that are in the order, and the client's own that aren't yet, oldest first
pub record Shared : Type 0 where
  pub acknowledged : Values
  pub pending : List MapOp

-- the value that is shown under a key
abbrev pub shown : Shared → List ℕ → Option Tree
shown shared key = value_behind key shared.pending (get shared.acknowledged key)

-- the client's map stands for these operations where what they make of a map with these values is acknowledged
abbrev pub StandsFor : Values → List MapOp → Shared → Type 0
StandsFor values ops shared = shared.acknowledged ≡ replay values ops
