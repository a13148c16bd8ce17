-- The front in memory.
use Rattle.std.specs.Prelude.{◌≡◌, ℕ, Some, Result, is_err}
use Rattle.fluid_io.specs.Plan.{Planned, next_fails, called_by_plan}
use Rattle.fluid_front.specs.Fronts.{Fronting}

-- how many wires it has left, how many it gave, how often it answered that it gives no more, and its plan
pub record MemoryFronting : Type 0 where
  pub left : ℕ
  pub given : ℕ
  pub nones : ℕ
  pub plan : Planned

abbrev pub memory_seen : MemoryFronting → Fronting
memory_seen f = record { left = Some f.left; given = f.given; nones = f.nones; faults = f.plan.faults }

-- a call fails exactly where the plan says so
pub record FailsByPlan {A E : Type 0} (old new : MemoryFronting) (result : Result A E) : Type 0 where
  pub plan : new.plan ≡ called_by_plan old.plan
  pub fails : next_fails old.plan ≡ is_err result
