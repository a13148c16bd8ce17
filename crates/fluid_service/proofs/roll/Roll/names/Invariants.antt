use Rattle.std.proofs.Common.{◌≡◌, ℕ, List, ◌++◌, map}
use Rattle.fluid_service.specs.Visiting.{Visiting}
use Rattle.fluid_service.proofs.roll.Roll.names.Given as goal

-- the names so far, and those that are left
abbrev pub invariant-loop-row : goal.invariant-loop-row
invariant-loop-row g l = l.names.items ++ map (λ (row : List ℕ × Visiting). row.0) l.row-iterator ≡ map (λ (row : List ℕ × Visiting). row.0) l.initial.row-iterator
