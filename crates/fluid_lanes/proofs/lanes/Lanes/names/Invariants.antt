use Rattle.std.proofs.Common.{◌≡◌, ◌++◌, map, drop}
use Rattle.fluid_lanes.specs.Rows.{name_of}
use Rattle.fluid_lanes.proofs.lanes.Lanes.names.Given as goal

-- what is done, and behind it the names of the rest
abbrev pub invariant-loop-row : goal.invariant-loop-row
invariant-loop-row g l = l.names.items ++ map name_of (drop l.row-index l.rows) ≡ map name_of l.rows
