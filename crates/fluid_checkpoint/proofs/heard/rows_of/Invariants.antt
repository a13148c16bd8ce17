use Rattle.std.proofs.Common.{◌≡◌, take}
use Rattle.std.specs.FinMap.{entries}
use Rattle.fluid_checkpoint.proofs.heard.rows_of.Given as goal

-- the rows so far
abbrev pub invariant-loop-place : goal.invariant-loop-place
invariant-loop-place l = l.rows.items ≡ take l.place (entries l.clients.rows)
