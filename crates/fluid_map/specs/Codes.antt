-- The states as tuples of their parts.
use Rattle.std.specs.Prelude.{◌≡◌, ℕ, List, Option, Some, None, refl}
use Rattle.std.specs.Coded.{Coded, code_by, coded×, coded_ℕ, coded_list, coded_option}
use Rattle.fluid_table.specs.Table as table
use Rattle.fluid_json.specs.Tree.{Tree}
use Rattle.fluid_json.specs.Code.{tree_code}
use Rattle.fluid_map.specs.declared.operation.MapOp.{MapOp}
use Rattle.fluid_map.specs.declared.operation.MapOp.TheVariants.{Set, Delete, Clear}
use Rattle.fluid_map.specs.Replay.{Values, Shared}

-- an operation is nothing, or a key with the value that it gets, if any
abbrev pub Parts : Type 0
Parts = Option (List ℕ × Option Tree)

abbrev pub parts_of : MapOp → Parts
parts_of (Set key value) = Some (key, Some value)
parts_of (Delete key) = Some (key, None)
parts_of Clear = None

abbrev pub of_parts : Parts → MapOp
of_parts (Some (key, Some value)) = Set key value
of_parts (Some (key, None)) = Delete key
of_parts None = Clear

abbrev pub of_parts-parts_of : (op : MapOp) → of_parts (parts_of op) ≡ op
of_parts-parts_of (Set key value) = refl
of_parts-parts_of (Delete key) = refl
of_parts-parts_of Clear = refl

abbrev pub operation_code : Coded MapOp
operation_code = code_by Parts (coded_option (coded× (coded_list coded_ℕ) (coded_option tree_code))) parts_of of_parts of_parts-parts_of

abbrev pub pending_code : Coded (List MapOp)
pending_code = coded_list operation_code

abbrev pub shared_code : Coded Shared
shared_code =
    code_by (Values × List MapOp) (coded× (table.values_code Tree tree_code) pending_code) (λ shared. (shared.acknowledged, shared.pending))
    (λ parts. record { acknowledged = parts.0; pending = parts.1 }) (λ _. refl)
